use Rattle.std.proofs.Common.{◌≡◌, ◌++◌, ◌∷◌, [], ℕ, List, refl, false, ◌∙◌}
use Rattle.trace_stream.proofs.Common.{has_feed}
use Rattle.trace_stream.proofs.ProgressLemmas.{left_front, front_of_piece, piece_on, midway_line, midway_kept}
use Rattle.trace_stream.proofs.progress.Progress.feed.Goals as goal

pub returns-in_default-answer_line-clause-midway : goal.returns-in_default-answer_line-clause-midway
returns-in_default-answer_line-clause-midway g c before front m =
    let told = c.loop-line.invariant.told in
    front_of_piece c.args.signal before (g.W.Sink.holds c.loop-line.sink) front told.0 c.loop-line.rest.now c.args.piece.now told.1
    (left_front c.args.signal before (g.W.Sink.holds c.loop-line.sink) (front ++ told.0) c.loop-line.self (told.2 before front m))

pub returns-in_default-flush_if_full-clause-midway : goal.returns-in_default-flush_if_full-clause-midway
returns-in_default-flush_if_full-clause-midway g c before front m =
    let told = c.loop-line.invariant.told in
    let line : List ℕ = c.in-Some.line.now in
    let after : List ℕ = c.in-Some.after.now in
    let parts : c.loop-line.rest.now ≡ line ++ 10 ∷ after = c.in-Some.ensures.parts in
    let done : List ℕ = told.0 ++ line ++ 10 ∷ [] in
    front_of_piece c.args.signal before (g.W.Sink.holds c.flush_if_full.new.sink) front done after c.args.piece.now
    (piece_on c.args.piece.now told.0 c.loop-line.rest.now line after told.1 parts)
    (c.in_default-flush_if_full.ensures.midway c.args.signal before (front ++ done)
    (midway_line c.args.signal before (g.W.Sink.holds c.loop-line.sink) front told.0 line c.loop-line.self c.answer_line.new.self (told.2 before front m) c.in-Ok.ensures))

pub loop-line-preserved : goal.loop-line-preserved
loop-line-preserved g c =
    let told = c.loop-line.invariant.told in
    let line : List ℕ = c.in-Some.line.now in
    let after : List ℕ = c.in-Some.after.now in
    let parts : c.loop-line.rest.now ≡ line ++ 10 ∷ after = c.in-Some.ensures.parts in
    let done : List ℕ = told.0 ++ line ++ 10 ∷ [] in
    record {
      told = (
        done,
        piece_on c.args.piece.now told.0 c.loop-line.rest.now line after told.1 parts,
        λ before front m. c.in-Ok-flush_if_full.ensures.midway c.args.signal before (front ++ done)
            (midway_line c.args.signal before (g.W.Sink.holds c.loop-line.sink) front told.0 line c.loop-line.self c.answer_line.new.self (told.2 before front m) c.in-Ok.ensures),
      );
      sure = c.in-Ok-flush_if_full.ensures.sure ∙ c.loop-line.invariant.sure;
    }

pub returns-in_default-extend_from_slice-clause-midway : goal.returns-in_default-extend_from_slice-clause-midway
returns-in_default-extend_from_slice-clause-midway g c before front m =
    let told = c.loop-line.invariant.told in
    front_of_piece c.args.signal before (g.W.Sink.holds c.loop-line.sink) front told.0 c.loop-line.rest.now c.args.piece.now told.1
    (left_front c.args.signal before (g.W.Sink.holds c.loop-line.sink) (front ++ told.0) c.loop-line.self (told.2 before front m))

pub returns-in_default-flush-clause-midway : goal.returns-in_default-flush-clause-midway
returns-in_default-flush-clause-midway g c before front m =
    let told = c.loop-line.invariant.told in
    let none : has_feed c.loop-line.rest.now ≡ false = c.in_default.ensures.none refl in
    c.in_default-flush.ensures.midway c.args.signal before (front ++ c.args.piece.now)
    (midway_kept c.args.signal before (g.W.Sink.holds c.loop-line.sink) front told.0 c.loop-line.rest.now c.args.piece.now c.loop-line.self _
    (told.2 before front m) told.1 none c.in-Ok-extend_from_slice.ensures.items refl)

pub returns-clause-midway : goal.returns-clause-midway
returns-clause-midway g c before front m =
    let told = c.loop-line.invariant.told in
    let none : has_feed c.loop-line.rest.now ≡ false = c.in_default.ensures.none refl in
    c.in-Ok-flush.ensures.midway c.args.signal before (front ++ c.args.piece.now)
    (midway_kept c.args.signal before (g.W.Sink.holds c.loop-line.sink) front told.0 c.loop-line.rest.now c.args.piece.now c.loop-line.self _
    (told.2 before front m) told.1 none c.in-Ok-extend_from_slice.ensures.items refl)
