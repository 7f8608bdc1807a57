-- The lines of made scripts stand apart, and spell their requests.
use Rattle.std.specs.Prelude.{⊤, ok_or, flat_map}
use Rattle.trace_lines.proofs.Common.{BadLine, Call, List, Members, Ok, Request, Some, [], all_of, and_parts, ap, append_assoc, arith, as_object, callsite_form, compact_text, decimal, depth, drop_form, enter_form, error_flags, escape_byte, event_form, exit_form, false, generated_lines, generated_requests, generated_script, generated_settings, generated_settings_line, is_blank, is_utf8, lane_form, layer_form, length, length-append, lines_of, map, max_depth, member, nat_tests, new_form, number, number_of-decimal, object, of_json, option_and_then, outline, refl, request_form, request_line, request_members, request_spelled, requests_of_round, requests_of_rounds, root_fields, row_fields, serde_json_on_literals, settings_form, settings_spelled, span_flags, suc, true, zero, ℕ, ◌*◌, ◌++◌, ◌+◌, ◌<◌, ◌==◌, ◌^◌, ◌∙◌, ◌∷◌, ◌≡◌, ◌≤◌}
use Rattle.std.specs.Str.{chars}
use Rattle.span_script.specs.declared.request.Call.TheVariants as call
use Rattle.span_script.specs.declared.request.RequestParent.TheVariants as request_parent
use Rattle.trace_lines.proofs.readings.FieldsLemmas.{fields_read}
use Rattle.trace_lines.proofs.readings.LinesLemmas.{read_value}
use Rattle.trace_lines.proofs.texts.PlainTextsLemmas.{is_plain, are_plain, IsPlain, room, text_plain, text_length, has_numbers, plain_utf8}
use Rattle.trace_lines.proofs.readings.CompactLemmas.{read_compact}

-- what is known of a request's line
pub record IsLine (line : List ℕ) (request : Request) : Type 0 where
  pub plain : are_plain line ≡ true
  pub spells : request_spelled line ≡ Ok request
  pub shown : is_blank line ≡ false
  pub short : length line ≤ 140

-- an object's compact text is a line
line_is : (ms : Members) (request : Request) → IsPlain (object ms) → depth (outline (object ms)) ≤ max_depth → of_json (outline (object ms)) ≡ Some (object ms)
    → all_of request_form ms ≡ Some request → room (object ms) ≤ 140 → IsLine (compact_text (object ms)) request
unfolding request_spelled
line_is ms request plain shallow same spells short =
    let text = compact_text (object ms) in
    let bytes = text_plain (object ms) plain in
    let value = read_value text (object ms) (plain_utf8 text bytes) (read_compact (object ms) (object ms) (has_numbers (object ms) plain) shallow same) in
    record {
      plain = bytes;
      spells = ap (λ v. ok_or (option_and_then (all_of request_form) (option_and_then as_object v)) BadLine) value ∙ ap (λ v. ok_or v BadLine) spells;
      shown = refl;
      short = omega (arith, short, text_length (object ms) plain);
    }

-- ---- the requests of a round

-- a request with a number
abbrev pub asked : ℕ → ℕ → Call → Request
asked at lane said = record { at = at; lane_place = lane; call = said }

enter_line : (at lane handle : ℕ) → at < 10 ^ 8 → lane < 10 ^ 8 → handle < 10 ^ 8 → IsLine (request_line (asked at lane (call.Enter handle))) (asked at lane (call.Enter handle))
unfolding request_form enter_form escape_byte
enter_line at lane handle a l h =
    line_is (request_members (asked at lane (call.Enter handle))) (asked at lane (call.Enter handle)) (refl, a, (refl, refl, (refl, h, (refl, l, tt)))) (omega arith)
    (rw (number_of-decimal at (omega (arith, a)), number_of-decimal lane (omega (arith, l)), number_of-decimal handle (omega (arith, h))) refl) refl (omega arith)

exit_line : (at lane guard : ℕ) → at < 10 ^ 8 → lane < 10 ^ 8 → guard < 10 ^ 8 → IsLine (request_line (asked at lane (call.Exit guard))) (asked at lane (call.Exit guard))
unfolding request_form exit_form escape_byte
exit_line at lane guard a l g =
    line_is (request_members (asked at lane (call.Exit guard))) (asked at lane (call.Exit guard)) (refl, a, (refl, refl, (refl, g, (refl, l, tt)))) (omega arith)
    (rw (number_of-decimal at (omega (arith, a)), number_of-decimal lane (omega (arith, l)), number_of-decimal guard (omega (arith, g))) refl) refl (omega arith)

drop_line : (at lane handle : ℕ) → at < 10 ^ 8 → lane < 10 ^ 8 → handle < 10 ^ 8 → IsLine (request_line (asked at lane (call.Drop handle))) (asked at lane (call.Drop handle))
unfolding request_form drop_form escape_byte
drop_line at lane handle a l h =
    line_is (request_members (asked at lane (call.Drop handle))) (asked at lane (call.Drop handle)) (refl, a, (refl, refl, (refl, h, (refl, l, tt)))) (omega arith)
    (rw (number_of-decimal at (omega (arith, a)), number_of-decimal lane (omega (arith, l)), number_of-decimal handle (omega (arith, h))) refl) refl (omega arith)

abbrev pub event_call : Call
event_call = call.Event 2 request_parent.Contextual row_fields

event_line : (at lane : ℕ) → at < 10 ^ 8 → lane < 10 ^ 8 → IsLine (request_line (asked at lane event_call)) (asked at lane event_call)
unfolding request_form event_form escape_byte
event_line at lane a l =
    line_is (request_members (asked at lane event_call)) (asked at lane event_call)
    (refl, a, (refl, refl, (refl, ((refl, (refl, tt)), tt), (refl, l, (refl, omega arith, tt))))) (omega arith)
    (rw (number_of-decimal at (omega (arith, a)), number_of-decimal lane (omega (arith, l)), number_of-decimal 2 (omega arith)) refl) refl (omega arith)

abbrev pub below_call : Call
below_call = call.New 1 request_parent.Contextual []

below_line : (at lane : ℕ) → at < 10 ^ 8 → lane < 10 ^ 8 → IsLine (request_line (asked at lane below_call)) (asked at lane below_call)
unfolding request_form new_form escape_byte
below_line at lane a l =
    line_is (request_members (asked at lane below_call)) (asked at lane below_call) (refl, a, (refl, refl, (refl, l, (refl, omega arith, tt)))) (omega arith)
    (rw (number_of-decimal at (omega (arith, a)), number_of-decimal lane (omega (arith, l)), number_of-decimal 1 (omega arith)) refl) refl (omega arith)

abbrev pub root_call : ℕ → Call
root_call i = call.New 0 request_parent.Root (root_fields i)

root_line : (at lane i : ℕ) → at < 10 ^ 8 → lane < 10 ^ 8 → i < 10 ^ 8 → IsLine (request_line (asked at lane (root_call i))) (asked at lane (root_call i))
unfolding request_form new_form escape_byte
root_line at lane i a l h =
    line_is (request_members (asked at lane (root_call i))) (asked at lane (root_call i))
    (refl, a, (refl, refl, (refl, ((refl, (refl, tt)), ((refl, (h, tt)), tt)), (refl, l, (refl, refl, (refl, omega arith, tt)))))) (omega arith)
    (rw (number_of-decimal at (omega (arith, a)), number_of-decimal lane (omega (arith, l)), number_of-decimal i (omega (arith, h)), number_of-decimal 0 (omega arith)) refl)
    (rw (fields_read (root_fields i) (tt, (omega (arith, h), tt))) refl) (omega arith)

-- each of some requests
abbrev pub Each : {X : Type 0} → (X → Type 0) → List X → Type 0
Each P [] = ⊤
Each P (x ∷ xs) = P x × Each P xs

abbrev pub HasLine : Request → Type 0
HasLine request = IsLine (request_line request) request

round_lines : (i : ℕ) → i < 50000 → Each HasLine (requests_of_round i)
round_lines i few = (
  root_line _ _ i (omega (arith, few)) (omega arith) (omega (arith, few)),
  (
    enter_line _ _ _ (omega (arith, few)) (omega arith) (omega (arith, few)),
    (
      below_line _ _ (omega (arith, few)) (omega arith),
      (
        enter_line _ _ _ (omega (arith, few)) (omega arith) (omega (arith, few)),
        (
          event_line _ _ (omega (arith, few)) (omega arith),
          (
            exit_line _ _ _ (omega (arith, few)) (omega arith) (omega (arith, few)),
            (
              drop_line _ _ _ (omega (arith, few)) (omega arith) (omega (arith, few)),
              (
                exit_line _ _ _ (omega (arith, few)) (omega arith) (omega (arith, few)),
                (drop_line _ _ _ (omega (arith, few)) (omega arith) (omega (arith, few)), tt),
              ),
            ),
          ),
        ),
      ),
    ),
  ),
)

-- ---- all rounds

each-append : {X : Type 0} (P : X → Type 0) (xs ys : List X) → Each P xs → Each P ys → Each P (xs ++ ys)
each-append P [] ys one two = two
each-append P (x ∷ xs) ys one two = (one.0, each-append P xs ys one.1 two)

pub each_rounds : (P : Request → Type 0) (most : ℕ) → ((i : ℕ) → i < most → Each P (requests_of_round i)) → (first n : ℕ) → first + n ≤ most → Each P (requests_of_rounds first n)
each_rounds P most one first zero few = tt
each_rounds P most one first (suc n) few = each-append P (requests_of_round first) (requests_of_rounds (first + 1) n) (one first (omega (arith, few))) (each_rounds P most one (first + 1) n (omega (arith, few)))

pub made_each : (n : ℕ) → n ≤ 50000 → Each HasLine (generated_requests n)
made_each n few = each_rounds HasLine 50000 round_lines 0 n (omega (arith, few))

pub many_rounds : (first n : ℕ) → length (requests_of_rounds first n) ≡ 9 * n
many_rounds first zero = refl
many_rounds first (suc n) = length-append (requests_of_round first) (requests_of_rounds (first + 1) n) ∙ omega (arith, many_rounds (first + 1) n)

-- ---- the lines stand apart

not_feed : (b : ℕ) → is_plain b ≡ true → (b == 10) ≡ false
not_feed b plain = grind (arith, nat_tests, plain)

line_apart : (line rest : List ℕ) → are_plain line ≡ true → lines_of (line ++ 10 ∷ rest) ≡ line ∷ lines_of rest
line_apart [] rest plain = refl
line_apart (b ∷ line) rest plain = let p = and_parts _ _ plain in rw (not_feed b p.0, line_apart line rest p.1) refl

abbrev with_feed : List ℕ → List ℕ
with_feed line = line ++ 10 ∷ []

feed_apart : (line rest : List ℕ) → are_plain line ≡ true → lines_of (with_feed line ++ rest) ≡ line ∷ lines_of rest
feed_apart line rest plain = ap lines_of (append_assoc line (10 ∷ []) rest) ∙ line_apart line rest plain

lines_apart : (requests : List Request) → Each HasLine requests → lines_of (flat_map with_feed (map request_line requests)) ≡ map request_line requests
lines_apart [] all = refl
lines_apart (r ∷ requests) all =
    feed_apart (request_line r) (flat_map with_feed (map request_line requests)) all.0.plain ∙ ap (λ (ls : List (List ℕ)). request_line r ∷ ls) (lines_apart requests all.1)

pub script_lines : (n : ℕ) → n ≤ 50000 → lines_of (generated_script n) ≡ generated_lines n
script_lines n few =
    feed_apart generated_settings_line (flat_map with_feed (map request_line (generated_requests n))) refl
    ∙ ap (λ (ls : List (List ℕ)). generated_settings_line ∷ ls) (lines_apart (generated_requests n) (made_each n few))

-- ---- how long the script is

lines_length : (requests : List Request) → Each HasLine requests → length (flat_map with_feed (map request_line requests)) ≤ 141 * length requests
lines_length [] all = omega arith
lines_length (r ∷ requests) all =
    omega (arith, length-append (with_feed (request_line r)) (flat_map with_feed (map request_line requests)), length-append (request_line r) (10 ∷ []), all.0.short, lines_length requests all.1)

pub script_short : (n : ℕ) → n ≤ 50000 → length (generated_script n) ≤ 67108864
script_short n few =
    omega (
      arith,
      few,
      length-append (with_feed generated_settings_line) (flat_map with_feed (map request_line (generated_requests n))),
      length-append generated_settings_line (10 ∷ []),
      lines_length (generated_requests n) (made_each n few),
      many_rounds 0 n,
    )

-- ---- what they spell

spelled_each : (requests : List Request) → Each HasLine requests → map (λ request. request_spelled (request_line request)) requests ≡ map Ok requests
spelled_each [] all = refl
spelled_each (r ∷ requests) all = rw (all.0.spells, spelled_each requests all.1) refl

pub requests_spelled : (n : ℕ) → n ≤ 50000 → map (λ request. request_spelled (request_line request)) (generated_requests n) ≡ map Ok (generated_requests n)
requests_spelled n few = spelled_each (generated_requests n) (made_each n few)

pub settings_read : settings_spelled generated_settings_line ≡ Ok generated_settings
unfolding serde_json_on_literals settings_spelled settings_form callsite_form lane_form error_flags span_flags layer_form is_utf8 chars
settings_read = refl
