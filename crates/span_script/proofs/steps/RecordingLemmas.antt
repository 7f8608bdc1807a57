-- What was recorded after one effect more, and the contexts of lanes.
use Rattle.std.specs.Option.{option_to_list}
use Rattle.std.proofs.Common.{◌≡◌, ℕ, Bool, List, [], ◌∷◌, ◌++◌, length, fold, Option, Some, None, refl, sym, ap, ◌∙◌}
use Rattle.std.proofs.lemmas.List.{append-nil, append_assoc}
use Rattle.span_script.proofs.Common.{LayerSettings, Context, Record, SpanData, Token, data_at, start_context, Recording, with_start_under, with_start, with_start_if_some, with_applied, with_close, with_span_finished, with_close_of_started, MadeSpan, SpanOp, Effect, Tables, after_effect, with_span_made, recording_after, open_part, records_of}

-- a recording with other entries, and records before its own
abbrev shifted : List Token → List Record → Recording → Recording
shifted ts fs r = record r { tokens = ts; finished = fs ++ r.finished }

module _ (ts : List Token) (fs : List Record) where
  start_apart : (s at : ℕ) (r : Recording) → with_start s at (shifted ts fs r) ≡ shifted ts fs (with_start s at r)
  start_apart s at r = by_context (start_context (data_at s r.spans))
    where
      by_context : (o : Option Context) → with_start_under o s at (shifted ts fs r) ≡ shifted ts fs (with_start_under o s at r)
      by_context None = refl
      by_context (Some under) = refl

  closed_apart : (o : Option SpanData) (s at : ℕ) (r : Recording) → with_span_finished o s at (shifted ts fs r) ≡ shifted ts fs (with_span_finished o s at r)
  closed_apart None s at r = refl
  closed_apart (Some told) s at r = ap (λ (xs : List Record). record (shifted ts fs (with_span_finished (Some told) s at r)) { finished = xs }) (append_assoc fs r.finished _)

  close_apart : (s at : ℕ) (r : Recording) → with_close s at (shifted ts fs r) ≡ shifted ts fs (with_close s at r)
  close_apart s at r = ap (with_close_of_started s at) (start_apart s at r) ∙ closed_apart (data_at s (with_start s at r).spans) s at (with_start s at r)

  starts_apart : (at : ℕ) (ss : List ℕ) (r : Recording) → fold (λ r s. with_start s at r) (shifted ts fs r) ss ≡ shifted ts fs (fold (λ r s. with_start s at r) r ss)
  starts_apart at [] r = refl
  starts_apart at (s ∷ ss) r = ap (λ (x : Recording). fold (λ r s. with_start s at r) x ss) (start_apart s at r) ∙ starts_apart at ss (with_start s at r)

  ops_apart : (at : ℕ) (ds : List SpanOp) (r : Recording) → fold (λ r d. with_applied d.span at d.op r) (shifted ts fs r) ds ≡ shifted ts fs (fold (λ r d. with_applied d.span at d.op r) r ds)
  ops_apart at [] r = refl
  ops_apart at (d ∷ ds) r = ops_apart at ds (with_applied d.span at d.op r)

  closes_apart : (at : ℕ) (ss : List ℕ) (r : Recording) → fold (λ r s. with_close s at r) (shifted ts fs r) ss ≡ shifted ts fs (fold (λ r s. with_close s at r) r ss)
  closes_apart at [] r = refl
  closes_apart at (s ∷ ss) r = ap (λ (x : Recording). fold (λ r s. with_close s at r) x ss) (close_apart s at r) ∙ closes_apart at ss (with_close s at r)

  made_apart : (n : ℕ) (o : Option MadeSpan) (r : Recording) → with_span_made n o (shifted ts fs r) ≡ shifted ts fs (with_span_made n o r)
  made_apart n None r = refl
  made_apart n (Some m) r = refl

  begins_apart : (o : Option ℕ) (at : ℕ) (r : Recording) → with_start_if_some o at (shifted ts fs r) ≡ shifted ts fs (with_start_if_some o at r)
  begins_apart None at r = refl
  begins_apart (Some s) at r = start_apart s at r

  recorded_apart : (n : ℕ) (e : Effect) (r : Recording) → recording_after n e (shifted ts fs r) ≡ shifted ts fs (recording_after n e r)
  recorded_apart n e r =
      let started = fold (λ r s. with_start s e.at r) r e.starts in
      let made = with_span_made n e.new_span started in
      let begun = with_start_if_some e.new_span_start e.at made in
      let done = fold (λ r d. with_applied d.span e.at d.op r) begun e.ops in
      let rest : Recording → Recording = λ x. fold (λ r s. with_close s e.at r) (fold (λ r d. with_applied d.span e.at d.op r) x e.ops) e.closes in
      ap (λ (x : Recording). rest (with_start_if_some e.new_span_start e.at (with_span_made n e.new_span x))) (starts_apart e.at e.starts r)
      ∙ ap (λ (x : Recording). rest (with_start_if_some e.new_span_start e.at x)) (made_apart n e.new_span started)
      ∙ ap rest (begins_apart e.new_span_start e.at made)
      ∙ ap (λ (x : Recording). fold (λ r s. with_close s e.at r) x e.closes) (ops_apart e.at e.ops begun)
      ∙ closes_apart e.at e.closes done

-- what is kept is the open part with its entries and records
shift_back : (r x : Recording) → open_part r ≡ x → r ≡ shifted r.tokens r.finished x
shift_back r x is = sym (ap (λ (fs : List Record). record r { finished = fs }) (append-nil r.finished)) ∙ ap (shifted r.tokens r.finished) is

-- with the open part alone an effect makes the same of what was recorded
pub record RecordedStep (k next : Recording) (t : Tables) (e : Effect) : Type 0 where
  pub open_is : open_part next ≡ (after_effect t e).recording
  pub finished : next.finished ≡ k.finished ++ records_of t e

pub recording_step : (k next : Recording) (t : Tables) (e : Effect) → open_part k ≡ t.recording → (toks : List Token) → next ≡ record (recording_after (length t.spans) e k) { tokens = toks } → RecordedStep k next t e
recording_step k next t e is toks now =
    let n = length t.spans in
    let all : recording_after n e k ≡ shifted k.tokens k.finished (recording_after n e t.recording) = ap (recording_after n e) (shift_back k t.recording is) ∙ recorded_apart k.tokens k.finished n e t.recording in
    record {
      open_is = ap open_part now ∙ ap (λ (x : Recording). open_part x) all;
      finished = ap (λ (x : Recording). x.finished) now ∙ ap (λ (x : Recording). x.finished) all;
    }

-- starts one by one
pub starts_fold : (o : Option ℕ) (at : ℕ) (r : Recording) → fold (λ r s. with_start s at r) r (option_to_list o) ≡ with_start_if_some o at r
starts_fold None at r = refl
starts_fold (Some s) at r = refl

-- settings, open entries and whether events are counted stay
abbrev stays : Recording → LayerSettings × List Token × Bool
stays r = (r.settings, r.tokens, r.counting)

start_stays : (s at : ℕ) (r : Recording) → stays (with_start s at r) ≡ stays r
start_stays s at r = by_context (start_context (data_at s r.spans))
  where
    by_context : (o : Option Context) → stays (with_start_under o s at r) ≡ stays r
    by_context None = refl
    by_context (Some under) = refl

close_stays : (s at : ℕ) (r : Recording) → stays (with_close s at r) ≡ stays r
close_stays s at r = by_told (data_at s (with_start s at r).spans) ∙ start_stays s at r
  where
    by_told : (o : Option SpanData) → stays (with_span_finished o s at (with_start s at r)) ≡ stays (with_start s at r)
    by_told None = refl
    by_told (Some told) = refl

starts_stay : (at : ℕ) (ss : List ℕ) (r : Recording) → stays (fold (λ r s. with_start s at r) r ss) ≡ stays r
starts_stay at [] r = refl
starts_stay at (s ∷ ss) r = starts_stay at ss (with_start s at r) ∙ start_stays s at r

ops_stay : (at : ℕ) (ds : List SpanOp) (r : Recording) → stays (fold (λ r d. with_applied d.span at d.op r) r ds) ≡ stays r
ops_stay at [] r = refl
ops_stay at (d ∷ ds) r = ops_stay at ds (with_applied d.span at d.op r)

closes_stay : (at : ℕ) (ss : List ℕ) (r : Recording) → stays (fold (λ r s. with_close s at r) r ss) ≡ stays r
closes_stay at [] r = refl
closes_stay at (s ∷ ss) r = closes_stay at ss (with_close s at r) ∙ close_stays s at r

made_stays : (n : ℕ) (o : Option MadeSpan) (r : Recording) → stays (with_span_made n o r) ≡ stays r
made_stays n None r = refl
made_stays n (Some m) r = refl

begins_stay : (o : Option ℕ) (at : ℕ) (r : Recording) → stays (with_start_if_some o at r) ≡ stays r
begins_stay None at r = refl
begins_stay (Some s) at r = start_stays s at r

recorded_stays : (n : ℕ) (e : Effect) (r : Recording) → stays (recording_after n e r) ≡ stays r
recorded_stays n e r =
    let started = fold (λ r s. with_start s e.at r) r e.starts in
    let made = with_span_made n e.new_span started in
    let begun = with_start_if_some e.new_span_start e.at made in
    closes_stay e.at e.closes (fold (λ r d. with_applied d.span e.at d.op r) begun e.ops) ∙ ops_stay e.at e.ops begun ∙ begins_stay e.new_span_start e.at made ∙ made_stays n e.new_span started ∙ starts_stay e.at e.starts r

pub recorded_settings : (n : ℕ) (e : Effect) (r : Recording) → (recording_after n e r).settings ≡ r.settings
recorded_settings n e r = ap (λ (x : LayerSettings × List Token × Bool). x.0) (recorded_stays n e r)

pub recorded_tokens : (n : ℕ) (e : Effect) (r : Recording) → (recording_after n e r).tokens ≡ r.tokens
recorded_tokens n e r = ap (λ (x : LayerSettings × List Token × Bool). x.1) (recorded_stays n e r)

-- a start of the open part
pub start_open : (s at : ℕ) (r x : Recording) → open_part r ≡ x → (with_start s at r).spans ≡ (with_start s at x).spans
start_open s at r x is = by_context (start_context (data_at s r.spans)) ∙ ap (λ (y : Recording). (with_start s at y).spans) is
  where
    by_context : (o : Option Context) → (with_start_under o s at r).spans ≡ (with_start_under o s at (open_part r)).spans
    by_context None = refl
    by_context (Some under) = refl

pub starts_open : (o : Option ℕ) (at : ℕ) (r x : Recording) → open_part r ≡ x → (with_start_if_some o at r).spans ≡ (with_start_if_some o at x).spans
starts_open None at r x is = ap (λ (y : Recording). y.spans) is
starts_open (Some s) at r x is = start_open s at r x is

-- an entry leaves the others open
pub entry_tokens : (o : Option ℕ) (at : ℕ) (r : Recording) → (with_start_if_some o at r).tokens ≡ r.tokens
entry_tokens o at r = ap (λ (x : LayerSettings × List Token × Bool). x.1) (begins_stay o at r)

pub entry_settings : (o : Option ℕ) (at : ℕ) (r : Recording) → (with_start_if_some o at r).settings ≡ r.settings
entry_settings o at r = ap (λ (x : LayerSettings × List Token × Bool). x.0) (begins_stay o at r)

pub entry_counting : (o : Option ℕ) (at : ℕ) (r : Recording) → (with_start_if_some o at r).counting ≡ r.counting
entry_counting o at r = ap (λ (x : LayerSettings × List Token × Bool). x.2) (begins_stay o at r)
