-- Heads and brackets that are read one cut after the other.
use Rattle.std.proofs.Common.{◌≡◌, ℕ, Bool, true, List, [], ◌∷◌, ◌++◌, Some, Option, Result, Ok, Err, refl, sym, ap, ◌∙◌, arith, subst, codes, IfSome}
use Rattle.env_directives.proofs.Common.{nat_tests, TRACE, pieces_at, is_among, lacks, HasRefusedPattern, begins_as_directive, unless_empty, directive_of_target, AnswersRead, read_fields, read_fielded, read_bracket, read_directive, LeadsToRefusedPattern, SpanLeadsToRefusedPattern, ParseError, Shape, Level, Field, Pattern, Equals, Fields, Memory, Directive}
use Rattle.env_directives.proofs.cuts.CutsLemmas.{cut_joined, cut_front, cut_stop, cut_off}

-- what a cut gives: the text is joined of its pieces, and these are a front without stops and a stop
module _ (stops text front rest : List ℕ) (stop : ℕ) (is_front : front ≡ (pieces_at stops text).front) (is_stop : Some stop ≡ (pieces_at stops text).stop)
    (is_rest : rest ≡ (pieces_at stops text).rest) where
  pub pieces_joined : text ≡ front ++ stop ∷ rest
  pieces_joined = rw (is_front, is_rest) (subst (λ (o : Option ℕ). text ≡ (pieces_at stops text).front ++ cut_off o (pieces_at stops text).rest) (sym is_stop) (cut_joined stops text))

  pub piece_among : is_among stops stop ≡ true
  piece_among = subst (λ (o : Option ℕ). IfSome o (λ s. is_among stops s ≡ true)) (sym is_stop) (cut_stop stops text)

  pub piece_lacks : lacks stops front ≡ true
  piece_lacks = subst (λ (f : List ℕ). lacks stops f ≡ true) (sym is_front) (cut_front stops text)

-- behind a span's name stands an opening brace
module _ (patterns : Bool) (d : Directive) (text front rest : List ℕ) (stop : ℕ) (is_front : front ≡ (pieces_at (codes "]{") text).front)
    (is_stop : Some stop ≡ (pieces_at (codes "]{") text).stop) (is_rest : rest ≡ (pieces_at (codes "]{") text).rest) (other : stop ≡ 93 → ⊥) where
  brace : stop ≡ 123
  brace = let among : is_among (codes "]{") stop ≡ true = piece_among (codes "]{") text front rest stop is_front is_stop is_rest in grind (arith, nat_tests)

  pub span_cut : read_bracket patterns d text ≡ read_fielded (record d { in_span = unless_empty front }) (read_fields patterns [] rest)
  unfolding read_bracket
  span_cut = rw (← is_front, ← is_stop, ← is_rest, brace) refl

  pub span_leads : LeadsToRefusedPattern rest → SpanLeadsToRefusedPattern text
  span_leads leads = record {
    span = front;
    more = rest;
    part = piece_lacks (codes "]{") text front rest stop is_front is_stop is_rest;
    whole = subst (λ (s : ℕ). text ≡ front ++ s ∷ rest) brace (pieces_joined (codes "]{") text front rest stop is_front is_stop is_rest);
    leads = leads;
  }

  -- what is answered to fields
  pub span_answers : (r : Result Directive ParseError) →
      AnswersRead (λ d. d) patterns (LeadsToRefusedPattern rest) r (read_fielded (record d { in_span = unless_empty front }) (read_fields patterns [] rest)) →
      AnswersRead (λ d. d) patterns (SpanLeadsToRefusedPattern text) r (read_bracket patterns d text)
  span_answers (Ok read) h = span_cut ∙ h
  span_answers (Err Memory) h = tt
  span_answers (Err Pattern) h = (h.0, span_leads h.1)
  span_answers (Err Shape) h = span_cut ∙ h
  span_answers (Err Level) h = span_cut ∙ h
  span_answers (Err Field) h = span_cut ∙ h
  span_answers (Err Equals) h = span_cut ∙ h
  span_answers (Err (Fields many)) h = span_cut ∙ h

-- behind a head stands an opening bracket
module _ (patterns : Bool) (text front rest : List ℕ) (stop : ℕ) (start : begins_as_directive text ≡ true) (is_front : front ≡ (pieces_at (codes "=[,") text).front)
    (is_stop : Some stop ≡ (pieces_at (codes "=[,") text).stop) (is_rest : rest ≡ (pieces_at (codes "=[,") text).rest)
    (no_comma : stop ≡ 44 → ⊥) (no_level : stop ≡ 61 → ⊥) where
  bracket : stop ≡ 91
  bracket = let among : is_among (codes "=[,") stop ≡ true = piece_among (codes "=[,") text front rest stop is_front is_stop is_rest in grind (arith, nat_tests)

  head_cut : read_directive patterns text ≡ read_bracket patterns (directive_of_target front TRACE) rest
  unfolding read_directive
  head_cut = rw (start, ← is_front, ← is_stop, ← is_rest, bracket) refl

  head_leads : SpanLeadsToRefusedPattern rest → HasRefusedPattern text
  head_leads inner = record {
    start = start;
    head = front;
    span = inner.span;
    earlier = inner.leads.earlier;
    field = inner.leads.field;
    stop = inner.leads.stop;
    more = inner.leads.more;
    parts = (piece_lacks (codes "=[,") text front rest stop is_front is_stop is_rest, inner.part, inner.leads.parts);
    part = inner.leads.part;
    stops = inner.leads.stops;
    whole =
        subst (λ (s : ℕ). text ≡ front ++ s ∷ rest) bracket (pieces_joined (codes "=[,") text front rest stop is_front is_stop is_rest)
        ∙ ap (λ (t : List ℕ). front ++ 91 ∷ t) (inner.whole ∙ ap (λ (t : List ℕ). inner.span ++ 123 ∷ t) inner.leads.whole);
    value = inner.leads.value;
  }

  pub bracket_answers : (r : Result Directive ParseError) → AnswersRead (λ d. d) patterns (SpanLeadsToRefusedPattern rest) r (read_bracket patterns (directive_of_target front TRACE) rest) →
      AnswersRead (λ d. d) patterns (HasRefusedPattern text) r (read_directive patterns text)
  bracket_answers (Ok d) h = head_cut ∙ h
  bracket_answers (Err Memory) h = tt
  bracket_answers (Err Pattern) h = (h.0, head_leads h.1)
  bracket_answers (Err Shape) h = head_cut ∙ h
  bracket_answers (Err Level) h = head_cut ∙ h
  bracket_answers (Err Field) h = head_cut ∙ h
  bracket_answers (Err Equals) h = head_cut ∙ h
  bracket_answers (Err (Fields many)) h = head_cut ∙ h
