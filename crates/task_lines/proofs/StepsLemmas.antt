-- What compact texts of steps and tasks spell.
use Rattle.std.proofs.Common.{◌≡◌, ◌<◌, ◌^◌, ℕ, List, ◌++◌, [], ◌∷◌, Option, Some, None, Ok, option_and_then, option_map, codes, decimal, refl, sym, ap, ◌∙◌, arith, append_assoc}
use Rattle.std.specs.Prelude.{ok_or}
use Rattle.std.specs.Str.{IsUtf8}
use Rattle.json.specs.Print.{escape_byte, quoted}
use Rattle.json.proofs.Printed.Decimals.{IsNumber-decimal}
use Rattle.otel_base.specs.declared.value.OtelValue.{OtelValue}
use Rattle.serde_json.specs.Data.{Data, Members, unsigned, number, string, object, array, member, no_members}
use Rattle.serde_json.specs.Find.{as_object}
use Rattle.serde_json.specs.Read.{read}
use Rattle.serde_json.specs.Written.{compact_text}
use Rattle.serde_json.proofs.Numbers.{number_of-decimal}
use Rattle.trace_base.specs.declared.field.Value.{Value}
use Rattle.trace_lines.specs.declared.told.Told.TheVariants.{BadLine}
use Rattle.trace_lines.specs.forms.AttributeForm.{otel_value_of}
use Rattle.trace_lines.specs.forms.FieldForm.{fields_of}
use Rattle.trace_lines.specs.forms.Forms.{all_of, each}
use Rattle.trace_lines.specs.text.Compact.{ReadsValue, BeginsWithValue}
use Rattle.trace_lines.proofs.readings.CompactLemmas.{Pair, read_items, read_compact}
use Rattle.trace_lines.proofs.readings.LinesLemmas.{read_value}
use Rattle.trace_tasks.specs.declared.script.Step.{Step}
use Rattle.trace_tasks.specs.declared.script.Step.TheVariants as step
use Rattle.trace_tasks.specs.declared.script.Task.{Task}
use Rattle.task_lines.specs.Compact.{BeginsStep, EndsTask}
use Rattle.task_lines.specs.TaskForm.{step_form, event_form, record_form, set_attribute_form, step_of, task_form, task_spelled}

-- ---- steps

abbrev event_data : Data → ℕ → Data
event_data fields site = object (member (codes "do") (string (codes "event")) (member (codes "fields") fields (member (codes "site") (number (unsigned site)) no_members)))

abbrev alone_data : ℕ → Data
alone_data site = object (member (codes "do") (string (codes "event")) (member (codes "site") (number (unsigned site)) no_members))

abbrev record_data : Data → Data
record_data fields = object (member (codes "do") (string (codes "record")) (member (codes "fields") fields no_members))

abbrev attribute_data : List ℕ → Data → Data
attribute_data words value = object (member (codes "do") (string (codes "set_attribute")) (member (codes "key") (string words) (member (codes "value") value no_members)))

abbrev yield_data : Data
yield_data = object (member (codes "do") (string (codes "yield")) no_members)

event_text : (fields : Data) (site : ℕ) (rest : List ℕ) → codes "{\"do\":\"event\",\"fields\":" ++ (compact_text fields ++ (codes ",\"site\":" ++ (decimal site ++ 125 ∷ rest))) ≡ compact_text (event_data fields site) ++ rest
unfolding escape_byte
event_text fields site rest = ap (λ (t : List ℕ). codes "{\"do\":\"event\",\"fields\":" ++ t)
    (ap (λ (t : List ℕ). compact_text fields ++ (codes ",\"site\":" ++ t)) (sym (append_assoc (decimal site) (125 ∷ []) rest))
    ∙ sym (append_assoc (compact_text fields) (codes ",\"site\":" ++ (decimal site ++ 125 ∷ [])) rest))

alone_text : (site : ℕ) (rest : List ℕ) → codes "{\"do\":\"event\",\"site\":" ++ (decimal site ++ 125 ∷ rest) ≡ compact_text (alone_data site) ++ rest
unfolding escape_byte
alone_text site rest = ap (λ (t : List ℕ). codes "{\"do\":\"event\",\"site\":" ++ t) (sym (append_assoc (decimal site) (125 ∷ []) rest))

record_text : (fields : Data) (rest : List ℕ) → codes "{\"do\":\"record\",\"fields\":" ++ (compact_text fields ++ 125 ∷ rest) ≡ compact_text (record_data fields) ++ rest
unfolding escape_byte
record_text fields rest = ap (λ (t : List ℕ). codes "{\"do\":\"record\",\"fields\":" ++ t) (sym (append_assoc (compact_text fields) (125 ∷ []) rest))

attribute_text : (words : List ℕ) (value : Data) (rest : List ℕ) → codes "{\"do\":\"set_attribute\",\"key\":" ++ (quoted words ++ (codes ",\"value\":" ++ (compact_text value ++ 125 ∷ rest))) ≡ compact_text (attribute_data words value) ++ rest
unfolding escape_byte
attribute_text words value rest = ap (λ (t : List ℕ). codes "{\"do\":\"set_attribute\",\"key\":" ++ t)
    (ap (λ (t : List ℕ). quoted words ++ (codes ",\"value\":" ++ t)) (sym (append_assoc (compact_text value) (125 ∷ []) rest))
    ∙ sym (append_assoc (quoted words) (codes ",\"value\":" ++ (compact_text value ++ 125 ∷ [])) rest))

pub event_begins : (text list tail rest : List ℕ) (site : ℕ) (d : Data) (fields : List (List ℕ × Value)) → text ≡ codes "{\"do\":\"event\",\"fields\":" ++ list → BeginsWithValue 18 list d tail → fields_of d ≡ Some fields
    → tail ≡ codes ",\"site\":" ++ (decimal site ++ 125 ∷ rest) → site < 2 ^ 64 → BeginsStep text (step.Event site fields) rest
unfolding step_form event_form escape_byte
event_begins text list tail rest site d fields front b given behind fits = (
  event_data d site,
  (
    event_data b.0 site,
    front ∙ ap (λ (t : List ℕ). codes "{\"do\":\"event\",\"fields\":" ++ t) (b.1 ∙ ap (λ (t : List ℕ). compact_text b.0 ++ t) behind) ∙ event_text b.0 site rest,
    ((tt, (b.2.0, (IsNumber-decimal site fits, tt))), omega (arith, b.2.1), rw (b.2.2, number_of-decimal site fits) refl),
  ),
  rw given refl,
)

pub alone_begins : (text rest : List ℕ) (site : ℕ) (fields : List (List ℕ × Value)) → text ≡ codes "{\"do\":\"event\",\"site\":" ++ (decimal site ++ 125 ∷ rest) → site < 2 ^ 64 → fields ≡ [] → BeginsStep text (step.Event site fields) rest
unfolding step_form event_form escape_byte
alone_begins text rest site fields is fits none = (
  alone_data site,
  (alone_data site, is ∙ alone_text site rest, ((tt, (IsNumber-decimal site fits, tt)), omega arith, rw (number_of-decimal site fits) refl)),
  ap (λ (fs : List (List ℕ × Value)). Some (step.Event site fs)) (sym none),
)

pub record_begins : (text list tail rest : List ℕ) (d : Data) (fields : List (List ℕ × Value)) → text ≡ codes "{\"do\":\"record\",\"fields\":" ++ list → BeginsWithValue 18 list d tail → fields_of d ≡ Some fields
    → tail ≡ 125 ∷ rest → BeginsStep text (step.Record fields) rest
unfolding step_form record_form escape_byte
record_begins text list tail rest d fields front b given behind = (
  record_data d,
  (
    record_data b.0,
    front ∙ ap (λ (t : List ℕ). codes "{\"do\":\"record\",\"fields\":" ++ t) (b.1 ∙ ap (λ (t : List ℕ). compact_text b.0 ++ t) behind) ∙ record_text b.0 rest,
    ((tt, (b.2.0, tt)), omega (arith, b.2.1), rw b.2.2 refl),
  ),
  rw given refl,
)

pub attribute_begins : (text named words tail inner end rest : List ℕ) (d : Data) (value : OtelValue) → text ≡ codes "{\"do\":\"set_attribute\",\"key\":" ++ named → named ≡ quoted words ++ tail
    → tail ≡ codes ",\"value\":" ++ inner → BeginsWithValue 16 inner d end → otel_value_of d ≡ Some value → end ≡ 125 ∷ rest → BeginsStep text (step.SetAttribute words value) rest
unfolding step_form set_attribute_form escape_byte
attribute_begins text named words tail inner end rest d value front key middle b given behind = (
  attribute_data words d,
  (
    attribute_data words b.0,
    front ∙ ap (λ (t : List ℕ). codes "{\"do\":\"set_attribute\",\"key\":" ++ t)
        (key ∙ ap (λ (t : List ℕ). quoted words ++ t) (middle ∙ ap (λ (t : List ℕ). codes ",\"value\":" ++ t) (b.1 ∙ ap (λ (t : List ℕ). compact_text b.0 ++ t) behind)))
        ∙ attribute_text words b.0 rest,
    ((tt, (tt, (b.2.0, tt))), omega (arith, b.2.1), rw b.2.2 refl),
  ),
  rw given refl,
)

pub yield_begins : (text rest : List ℕ) → text ≡ codes "{\"do\":\"yield\"}" ++ rest → BeginsStep text step.Yield rest
unfolding step_form escape_byte
yield_begins text rest is = (yield_data, (yield_data, is, ((tt, tt), omega arith, refl)), refl)

-- ---- one item more

one_more : {A : Type 0} (o : Option A) (e : Option (List A)) (l : Option A)
    → option_and_then (λ a. option_map (λ more. a ∷ more) (option_and_then (λ fs. option_map (λ f. fs ++ f ∷ []) l) e)) o
    ≡ option_and_then (λ fs. option_map (λ f. fs ++ f ∷ []) l) (option_and_then (λ a. option_map (λ more. a ∷ more) e) o)
one_more None e l = refl
one_more (Some a) None l = refl
one_more (Some a) (Some fs) None = refl
one_more (Some a) (Some fs) (Some f) = refl

alone : {A : Type 0} (l : Option A) → option_and_then (λ a. option_map (λ more. a ∷ more) (Some [])) l ≡ option_map (λ f. [] ++ f ∷ []) l
alone None = refl
alone (Some f) = refl

read_more : (ps : List Pair) (p : Pair) → each step_of (read_items (ps ++ p ∷ [])) ≡ option_and_then (λ fs. option_map (λ f. fs ++ f ∷ []) (step_of p.1)) (each step_of (read_items ps))
read_more [] p = alone (step_of p.1)
read_more (q ∷ ps) p =
    ap (λ e. option_and_then (λ a. option_map (λ more. a ∷ more) e) (step_of q.1)) (read_more ps p)
    ∙ one_more (step_of q.1) (each step_of (read_items ps)) (step_of p.1)

pub step_more : (ps : List Pair) (p : Pair) (old new : List Step) (s : Step)
    → each step_of (read_items ps) ≡ Some old → step_of p.1 ≡ Some s → new ≡ old ++ s ∷ [] → each step_of (read_items (ps ++ p ∷ [])) ≡ Some new
step_more ps p old new s before is all =
    read_more ps p
    ∙ ap (λ e. option_and_then (λ fs. option_map (λ x. fs ++ x ∷ []) (step_of p.1)) e) before
    ∙ ap (λ o. option_map (λ x. old ++ x ∷ []) o) is
    ∙ ap (λ fs. Some fs) (sym all)

-- ---- a task

abbrev task_members : ℕ → Data → Members
task_members site list = member (codes "site") (number (unsigned site)) (member (codes "task") list no_members)

abbrev fielded_members : Data → ℕ → Data → Members
fielded_members fields site list = member (codes "fields") fields (task_members site list)

-- what an object's compact text spells
spells : (raw ms : Members) (task : Task) (line : List ℕ) → IsUtf8 line → line ≡ compact_text (object raw) → ReadsValue 21 (object raw) (object ms) → all_of task_form ms ≡ Some task → task_spelled line ≡ Ok task
unfolding task_spelled
spells raw ms task line utf8 is reads formed =
    let value = read_value line (object ms) utf8 (ap read is ∙ read_compact (object raw) (object ms) reads.0 (omega (arith, reads.1)) reads.2) in
    ap (λ v. ok_or (option_and_then (all_of task_form) (option_and_then as_object v)) BadLine) value ∙ ap (λ v. ok_or v BadLine) formed

pub task_read : (line : List ℕ) (site : ℕ) (fields : List (List ℕ × Value)) (steps : List Step) → IsUtf8 line → site < 2 ^ 64 → EndsTask (codes "{\"site\":") line site steps → fields ≡ []
    → task_spelled line ≡ Ok (record { site = site; fields = fields; steps = steps })
unfolding task_form escape_byte
task_read line site fields steps utf8 fits e none =
    let b = e.2.1 in
    let given = e.2.2 in
    spells (task_members site b.0) (task_members site (array e.2.0)) (record { site = site; fields = []; steps = steps }) line utf8
    (e.1 ∙ ap (λ (t : List ℕ). codes "{\"site\":" ++ (decimal site ++ (codes ",\"task\":" ++ t))) b.1)
    ((IsNumber-decimal site fits, (b.2.0, tt)), omega (arith, b.2.1), rw (number_of-decimal site fits, b.2.2) refl)
    (rw given refl)
    ∙ ap (λ (fs : List (List ℕ × Value)). Ok (record { site = site; fields = fs; steps = steps })) (sym none)

pub fielded_read : (line list tail : List ℕ) (site : ℕ) (d : Data) (fields : List (List ℕ × Value)) (steps : List Step) → IsUtf8 line → line ≡ codes "{\"fields\":" ++ list → BeginsWithValue 18 list d tail
    → fields_of d ≡ Some fields → site < 2 ^ 64 → EndsTask (codes ",\"site\":") tail site steps → task_spelled line ≡ Ok (record { site = site; fields = fields; steps = steps })
unfolding task_form escape_byte
fielded_read line list tail site d fields steps utf8 front f named fits e =
    let b = e.2.1 in
    let given = e.2.2 in
    spells (fielded_members f.0 site b.0) (fielded_members d site (array e.2.0)) (record { site = site; fields = fields; steps = steps }) line utf8
    (front ∙ ap (λ (t : List ℕ). codes "{\"fields\":" ++ t) (f.1 ∙ ap (λ (t : List ℕ). compact_text f.0 ++ t) (e.1 ∙ ap (λ (t : List ℕ). codes ",\"site\":" ++ (decimal site ++ (codes ",\"task\":" ++ t))) b.1)))
    ((f.2.0, (IsNumber-decimal site fits, (b.2.0, tt))), omega (arith, f.2.1, b.2.1), rw (f.2.2, number_of-decimal site fits, b.2.2) refl)
    (rw (named, given) refl)
