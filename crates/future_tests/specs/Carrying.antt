-- What futures know stays known.
use Rattle.std.proofs.Common.{ℕ, ◌<◌, length, arith, inl, inr}
use Rattle.std.proofs.lemmas.Option.{slice_get_within, slice_get_cases}
use Rattle.trace_base.specs.Gate.{WorldValue}
use Rattle.span_futures.specs.Lent.{KeepsParts}

-- a callsite that was there is there
pub site_stays : {S : Type 0} (old new : WorldValue S) (site : ℕ) → KeepsParts old new → site < length old.sites → site < length new.sites
site_stays old new site parts there = elim (slice_get_cases old.sites site).1 [
  | inl here ↦ slice_get_within new.sites site here.0 (parts.sites site here.0 here.2)
  | inr past ↦ absurd (let p = past.0 in omega (arith, p, there))
]
