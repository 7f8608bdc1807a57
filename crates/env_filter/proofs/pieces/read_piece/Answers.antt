-- One piece is read.
use Rattle.std.proofs.Common.{◌∷◌, [], ◌+◌, sym, ◌∙◌, append-nil, refl}
use Rattle.env_filter.proofs.Common.{Ignored}
use Rattle.env_filter.proofs.printed.RefusalsLemmas.{reads_empty, reads_ignored}
use Rattle.env_filter.proofs.pieces.read_piece.Goals as goal

pub returns-then-is_empty : goal.returns-then-is_empty
returns-then-is_empty c = record {
  directives = [];
  ignored = [];
  reads = reads_empty c.args.patterns (c.args.at + 1) c.args.piece.now (sym c.if-is_empty.ensures);
  added = sym (append-nil c.args.directives.now.items);
  added_ignored = sym (append-nil c.args.ignored.now.items);
}

pub returns-in_ok-push-in-Err : goal.returns-in_ok-push-in-Err
returns-in_ok-push-in-Err c =
    let i : Ignored = record { piece = c.args.at + 1; text = c.in_ok-from_str-in-Err.field-0; fault = c.in-Err.fault } in
    record {
      directives = [];
      ignored = i ∷ [];
      reads = reads_ignored c.args.patterns (c.args.at + 1) c.args.piece.now i (sym c.if-is_empty.ensures)
          (record { numbered = refl; text = c.in_ok-from_str-in-Err.ensures.ok; fault = c.in-Err.ensures.fault; no_memory = sym c.is_memory.ensures ∙ c.if-is_memory.false });
      added = sym (append-nil c.args.directives.now.items);
      added_ignored = c.in_ok-push-in-Err.ensures.items;
    }
