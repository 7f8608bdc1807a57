-- A text of several directives, read piece by piece.
use Rattle.std.specs.Result.{IsErrAnd, IsOkAnd}
use Rattle.std.proofs.Common.{refl, sym, ap, ◌∙◌, subst, ◌≡◌, ℕ, List, ◌∷◌, Result, Ok, Err}
use Rattle.env_directives.proofs.Common.{ParseError, StaticDirective, DirectiveTable, with_static, with_statics, statics_of}
use Rattle.env_directives.specs.declared.directive.ParseError.TheVariants as fault
use Rattle.env_directives.specs.reading.StaticText.{and_then, static_of, Fails, ReadsOrFails}

-- what the pieces that are left make of a table
abbrev pub read_on : List (List ℕ) → DirectiveTable StaticDirective → Result (DirectiveTable StaticDirective) ParseError
read_on texts t = and_then (statics_of texts) (λ ds. Ok (with_statics ds t))

read_more : (text : List ℕ) (texts : List (List ℕ)) (d : StaticDirective) (t : DirectiveTable StaticDirective) → static_of text ≡ Ok d
    → read_on (text ∷ texts) t ≡ read_on texts (with_static d t)
read_more text texts d t is = rw is (by (statics_of texts))
  where
    by : (r : Result (List StaticDirective) ParseError)
        → and_then (and_then r (λ ds. Ok (d ∷ ds))) (λ ds. Ok (with_statics ds t)) ≡ and_then r (λ ds. Ok (with_statics ds (with_static d t)))
    by (Ok ds) = refl
    by (Err e) = refl

pub read_added : (text : List ℕ) (texts : List (List ℕ)) (t s : DirectiveTable StaticDirective) → IsOkAnd (static_of text) (λ d. s ≡ with_static d t)
    → read_on (text ∷ texts) t ≡ read_on texts s
read_added text texts t s h = by (static_of text) refl h
  where
    by : (r : Result StaticDirective ParseError) → static_of text ≡ r → IsOkAnd r (λ d. s ≡ with_static d t) → read_on (text ∷ texts) t ≡ read_on texts s
    by (Ok d) read is = read_more text texts d t read ∙ ap (read_on texts) (sym is)
    by (Err e) read is = absurd is

ended : (e : ParseError) (text : List ℕ) (texts : List (List ℕ)) (t : DirectiveTable StaticDirective) → static_of text ≡ Err e → read_on (text ∷ texts) t ≡ Err e
ended e text texts t is = rw is refl

pub read_fault : (e : ParseError) (text : List ℕ) (texts : List (List ℕ)) (t : DirectiveTable StaticDirective) → Fails e (static_of text)
    → Fails e (read_on (text ∷ texts) t)
read_fault fault.Memory text texts t h = tt
read_fault fault.Shape text texts t h = ended _ text texts t h
read_fault fault.Level text texts t h = ended _ text texts t h
read_fault fault.Field text texts t h = ended _ text texts t h
read_fault fault.Pattern text texts t h = ended _ text texts t h
read_fault fault.Equals text texts t h = ended _ text texts t h
read_fault (fault.Fields many) text texts t h = ended _ text texts t h

-- an answer that hands a fault on
pub handed_on : {X : Type 0} (e : ParseError) (answer read : Result X ParseError) → IsErrAnd answer (λ given. given ≡ e) → Fails e read → ReadsOrFails answer read
handed_on e (Ok x) read h fails = absurd h
handed_on e (Err given) read h fails = subst (λ f. Fails f read) (sym h) fails
