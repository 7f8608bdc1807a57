-- Where a request stands, and what its effect, or the first refusal that applies, is made of.
use Rattle.std.specs.Prelude.{ℕ, List, [], ◌∷◌, map, Bool, if◌then◌else◌, Option, Some, None, Result, Ok, Err}
use Rattle.otel_state.specs.declared.op.Op.{Op}
use Rattle.span_script.specs.declared.reply.Reply.{Reply}
use Rattle.span_script.specs.declared.reply.Refusal.{Refusal}
use Rattle.span_script.specs.declared.reply.Refusal.TheVariants as refusal
use Rattle.span_script.specs.declared.reply.What.{What}
use Rattle.span_script.specs.Setups.{Setup, id_at}
use Rattle.span_script.specs.Tables.{SpanOp, Effect, Scope, Tables, quiet_effect}

-- what the settings fix, the script so far, the moment of the request, and its lane, by its place and by its id
pub record Here : Type 0 where
  pub setup : Setup
  pub tables : Tables
  pub at : ℕ
  pub place : ℕ
  pub lane : ℕ

-- the lane at a place has the id that the settings give it
abbrev pub here_at : Setup → Tables → ℕ → ℕ → Here
here_at setup script at place = record { setup = setup; tables = script; at = at; place = place; lane = id_at setup.ids place }

-- ---- an effect, or a refusal

abbrev pub Resolved : Type 0
Resolved = Result Effect Refusal

infixl 10 ◌>>=◌
abbrev pub ◌>>=◌ : {A B : Type 0} → Result A Refusal → (A → Result B Refusal) → Result B Refusal
(Ok x) >>= go = go x
(Err why) >>= go = Err why

-- what a name names, if that is there
abbrev pub need : {A : Type 0} → What → Option A → Result A Refusal
need unknown None = Err (refusal.UnknownName unknown)
need unknown (Some x) = Ok x

-- a test that refuses where it passes
abbrev pub refuse_if : Bool → Refusal → Resolved → Resolved
refuse_if test why resolved = if test then Err why else resolved

-- ---- what many effects have

-- an answer, and nothing changes
abbrev pub answer_effect : Here → Reply → Effect
answer_effect here answer = quiet_effect here.at here.lane answer

-- ops on spans and nothing else
abbrev pub ops_effect : Here → Reply → List SpanOp → Effect
ops_effect here answer done = record (answer_effect here answer) { ops = done }

-- an op on a scope's own span, if it has one
abbrev pub op_on : Scope → Op → List SpanOp
op_on [] op = []
op_on (s ∷ up) op = record { span = s; op = op } ∷ []

-- the same of some ops
abbrev pub ops_on : Scope → List Op → List SpanOp
ops_on [] given = []
ops_on (s ∷ up) given = map (λ op. record { span = s; op = op }) given
