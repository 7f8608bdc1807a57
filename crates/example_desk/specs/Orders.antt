-- Orders at a desk: what its functions leave behind, and what an order makes of the stack, with the moment of each call.
use Rattle.std.specs.Prelude.{◌≡◌, ◌+◌, ◌⊎◌, ℕ, Bool, true, false, List, [], ◌∷◌, Result}
use Rattle.traced_futures.specs.Programs.{Lane, Current, Ghosts, WorldValue, Handle, as_parent, MakesAndCloses, EntersAndExits, TellsIfGateAdmits, TellsWhen, StandsAlone, StandsWith, RestoresAndDid, Instrumented, Plain, PollsOnce, KeepsFuture, RunsUnder}
use Rattle.traced_layer.specs.Programs.{Context, AsksParent, PartCall}
use Rattle.example_desk.specs.declared.desk.Desk.{Desk}
use Rattle.example_desk.specs.declared.order_values.OrderValues.{OrderValues}
use Rattle.example_desk.specs.declared.payment.Payment.{Payment}

-- its lanes, the one that is at work first
abbrev pub front_first : {S : Type 0} → Desk S → List Lane
front_first desk = desk.front ∷ desk.back ∷ []

abbrev pub back_first : {S : Type 0} → Desk S → List Lane
back_first desk = desk.back ∷ desk.front ∷ []

module _ {S : Type 0} (sub : Ghosts S) (most : ℕ) (lanes : Desk S → List Lane) where
  -- calls of the one stack can be made on both, with at most so many spans, and holds of each
  abbrev pub CanCall : Desk S → Type 0
  CanCall desk = StandsAlone sub most 5 desk.world (lanes desk)

  -- and a handle is held
  abbrev pub CanCallWith : Handle → Desk S → Type 0
  CanCallWith handle desk = StandsWith sub most 5 desk.world (lanes desk) handle

-- the same so long after an order came, where all is as it was, and what was done if the result is Ok
abbrev pub Leaves : {S E : Type 0} → Ghosts S → OrderValues → ℕ → (Desk S → List Lane) → Desk S → Desk S → Result (Unit {0}) E → (Ghosts S → OrderValues → Desk S → Desk S → Type 0) → Type 0
Leaves sub given after lanes old new result does = RestoresAndDid sub (given.at + after) 5 old.world (lanes old) new.world (lanes new) result (does sub given old new)

-- the same where a payment was asked for on the front lane: the other one is left alone
abbrev pub KeepsPayment : {S T : Type 0} → Ghosts S → ℕ → Instrumented T → Desk S → Instrumented T → Desk S → Type 0
KeepsPayment sub most payment old later new = KeepsFuture sub most 5 payment old.world (front_first old) later new.world (front_first new) × (new.back ≡ old.back)

-- a poll on the front lane at a moment, and whether the payment is made
abbrev pub Asks : {S T : Type 0} → Ghosts S → ℕ → Bool → Instrumented T → Desk S → Instrumented T → Desk S → Type 0
Asks sub at made payment old later new = PollsOnce (Unit {0}) sub payment old.world old.front at made later new.world new.front

-- one poll, and another where that one didn't find it made
abbrev pub AsksTwice : {S T : Type 0} → Ghosts S → OrderValues → Bool → Instrumented T → Desk S → Instrumented T → Desk S → Type 0
AsksTwice {S} {T} sub given made payment old later new = (Asks sub (given.at + 22) true payment old later new × (made ≡ true))
    ⊎ ((asked : Instrumented T) × (mid : Desk S) × Asks sub (given.at + 22) false payment old asked mid × Asks sub (given.at + 24) made asked mid later new)

-- a payment's span, under which a payment is waited for that nobody has asked for, and an event where it is made
abbrev pub Pays : {S : Type 0} → Ghosts S → OrderValues → Desk S → Desk S → Type 0
Pays {S} sub given old new = (made : Bool) × (closed : WorldValue S)
    × RunsUnder {T = Plain Payment} sub old.front Current given.sites.pay given.pay (given.at + 20) (given.at + 26) (record { future = record { asked = false } }) (λ payment begun later ended. AsksTwice sub given made payment (record old { world = begun }) later (record new { world = ended })) old.world closed
    × TellsWhen made sub closed new.world new.front (given.at + 27) Current given.sites.paid given.paid

-- the event of an order that isn't served, inside the span of a packing
abbrev pub Wraps : {S : Type 0} → Handle → Ghosts S → OrderValues → Desk S → Desk S → Type 0
Wraps pack sub given old new = EntersAndExits sub pack (given.at + 35) (given.at + 40) (λ world lane told left. (left ≡ lane) × TellsIfGateAdmits sub world told lane (given.at + 40) Current given.sites.failed given.failed) old.world new.world old.back new.back

-- a packing's span, a child of the order's
abbrev pub Packs : {S : Type 0} → Handle → Ghosts S → OrderValues → Desk S → Desk S → Type 0
Packs order sub given old new = MakesAndCloses sub old.back (as_parent order.held) given.sites.pack given.pack (given.at + 30) (given.at + 45) (λ pack begun ended. Wraps pack sub given (record old { world = begun }) (record new { world = ended })) old.world new.world

-- both, one after the other, each on its lane
abbrev pub PaysAndPacks : {S : Type 0} → Handle → Ghosts S → OrderValues → Desk S → Desk S → Type 0
PaysAndPacks {S} order sub given old new = (mid : Desk S) × (mid.back ≡ old.back) × Pays sub given old mid × (new.front ≡ mid.front) × Packs order sub given mid new

-- both, inside the order's span
abbrev pub Inside : {S : Type 0} → Handle → Ghosts S → OrderValues → Desk S → Desk S → Type 0
Inside order sub given old new = EntersAndExits sub order (given.at + 10) (given.at + 50) (λ world lane left left_lane. PaysAndPacks order sub given (record old { world = world; front = lane }) (record new { world = left; front = left_lane })) old.world new.world old.front new.front

-- the order's span, whose parent is set before it starts
abbrev pub ServesOrder : {S : Type 0} → (S → PartCall → S → Type 0) → Context → Ghosts S → OrderValues → Desk S → Desk S → Type 0
ServesOrder {S} touches remote sub given old new = MakesAndCloses sub old.front Current given.sites.order given.order given.at (given.at + 60)
    (λ order begun ended. (asked : WorldValue S) × (answer : _) × AsksParent touches begun asked (given.at + 1) remote order.held answer × Inside order sub given (record old { world = asked }) (record new { world = ended })) old.world new.world
