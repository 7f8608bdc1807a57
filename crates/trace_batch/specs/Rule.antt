-- The rule over the queue, and what each step tells.
use Rattle.std.specs.Prelude.{◌≡◌, ℕ, ◌+◌, ◌-◌, ◌<◌, ◌≤◌, List, [], ◌∷◌, ◌++◌, get_or}
use mathlib.Core.Option.{some}
use lib.ListN.{get_elem?}
use Rattle.trace_batch.specs.declared.item.Sent.{Sent}
use Rattle.trace_batch.specs.declared.queue.View.{View}
use Rattle.trace_batch.specs.declared.queue.View.TheVariants.{Nobody, Sender, Writer}
use Rattle.trace_batch.specs.Merges.{of_lane}

-- the view of the sender of a lane, which put these in
abbrev pub sender_view : ℕ → List Sent → View
sender_view lane put = Sender lane put

-- the view of the writer: how many lanes may have a sender, what is known of the others, what it took out
abbrev pub writer_view : ℕ → List (List Sent) → List Sent → View
writer_view lanes known got = Writer lanes known got

-- what is known of a lane that has no sender any more, or never had one
abbrev pub known_at : ℕ → List (List Sent) → ℕ → List Sent
known_at lanes known l = get_or known (l - lanes) []

-- What a pass knows fits what the queue holds. reader: the writer's pass. pass: the pass of each lane's sender, of the lanes that have one
abbrev pub ViewFits : List Sent → ℕ → (ℕ → ℕ) → ℕ → List (List Sent) → List Sent → ℕ → View → Type 0
ViewFits items reader pass lanes known got port Nobody = Unit {0}
ViewFits items reader pass lanes known got port (Sender l p) = (l < lanes) × (pass l ≡ port) × (p ≡ of_lane l (got ++ items))
ViewFits items reader pass lanes known got port (Writer n k g) = (port ≡ reader) × (n ≡ lanes) × (k ≡ known) × (g ≡ got)

-- The rule: what the sender of a lane put in is what was taken out of that lane and then what the queue holds of it, and of
-- a lane without a sender that is what is known of it.
pub record KeepsRule (items : List Sent) (views : List View) : Type 0 where
  pub reader : ℕ
  pub pass : ℕ → ℕ
  pub lanes : ℕ
  pub known : List (List Sent)
  pub got : List Sent
  pub ended : (l : ℕ) → lanes ≤ l → of_lane l (got ++ items) ≡ known_at lanes known l
  pub each : (port : ℕ) (v : View) → get_elem? views port ≡ some v → ViewFits items reader pass lanes known got port v

-- the writer's view once the next lane has a sender
abbrev pub one_more : View → View
one_more (Writer n k g) = Writer (n + 1) k g
one_more (Sender l p) = Sender l p
one_more Nobody = Nobody

-- that sender's view, which put nothing in yet
abbrev pub next_sender : View → View
next_sender (Writer n k g) = Sender n []
next_sender (Sender l p) = Nobody
next_sender Nobody = Nobody

-- the writer's view once it took in the pass of the last lane's sender, and so knows what that put in
abbrev pub one_fewer : View → View → View
one_fewer (Writer n k g) (Sender l p) = Writer l (p ∷ k) g
one_fewer (Writer n k g) (Writer m j h) = Writer n k g
one_fewer (Writer n k g) Nobody = Writer n k g
one_fewer (Sender l p) w = Sender l p
one_fewer Nobody w = Nobody

-- a sender's view with an item put in
abbrev pub put_into : View → Sent → View
put_into (Sender l p) x = Sender l (p ++ x ∷ [])
put_into (Writer n k g) x = Writer n k g
put_into Nobody x = Nobody

-- the writer's view with an item taken out
abbrev pub took_out : View → Sent → View
took_out (Writer n k g) x = Writer n k (g ++ x ∷ [])
took_out (Sender l p) x = Sender l p
took_out Nobody x = Nobody

-- what the writer learns of the lanes that have no sender any more
abbrev pub KnowsEndedLanes : View → List Sent → Type 0
KnowsEndedLanes (Writer n k g) items = (l : ℕ) → n ≤ l → of_lane l (g ++ items) ≡ known_at n k l
KnowsEndedLanes (Sender l p) items = Unit {0}
KnowsEndedLanes Nobody items = Unit {0}

-- it is the view of this lane's sender
abbrev pub IsSenderOf : ℕ → View → Type 0
IsSenderOf l v = (p : List Sent) × (v ≡ sender_view l p)

-- how many lanes may have a sender, as the writer knows it
abbrev pub lane_count_of : View → ℕ
lane_count_of (Writer n k g) = n
lane_count_of (Sender l p) = 0
lane_count_of Nobody = 0
