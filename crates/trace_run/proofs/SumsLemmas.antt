-- What is left where a summary is made.
use Rattle.std.proofs.Common.{◌≡◌, ℕ, List, [], refl, sym, subst, arith, Option}
use Rattle.std.proofs.lemmas.List.{append-nil}
use Rattle.trace_run.proofs.Common.{Status, Streams, CountsFault, PutsFront, HasCause, CarriesOut}
use Rattle.trace_stream.specs.declared.status.Status.TheVariants as ends
use Rattle.trace_run.specs.Commands.Make.{generated_summary_line, LeavesSummary, CompletesSummary, meaning_of_make}

sum_front : (status : Status) (rounds : ℕ) (before now : Option (List ℕ)) → LeavesSummary status rounds before now → PutsFront before now (generated_summary_line rounds)
sum_front ends.Ok rounds before now left = (generated_summary_line rounds, ([], sym (append-nil (generated_summary_line rounds))), left.1)
sum_front ends.Usage rounds before now left = absurd left
sum_front ends.Refused rounds before now left = absurd left
sum_front ends.ReadFault rounds before now left = absurd left
sum_front ends.WriteFault rounds before now left = left
sum_front ends.Memory rounds before now left = ([], (generated_summary_line rounds, refl), left)
sum_front ends.TooLong rounds before now left = absurd left

sum_causes : (status : Status) (rounds : ℕ) (before now : Streams) → LeavesSummary status rounds before.held now.held
    → (status ≡ ends.WriteFault → CountsFault before.write_faults now.write_faults) → HasCause status before now
sum_causes ends.Ok rounds before now left fault = tt
sum_causes ends.Usage rounds before now left fault = absurd left
sum_causes ends.Refused rounds before now left fault = absurd left
sum_causes ends.ReadFault rounds before now left fault = absurd left
sum_causes ends.WriteFault rounds before now left fault = fault refl
sum_causes ends.Memory rounds before now left fault = tt
sum_causes ends.TooLong rounds before now left fault = absurd left

-- a summary that was made
pub carries_made : (rounds : ℕ) (status : Status) (before now : Streams) → LeavesSummary status rounds before.held now.held → CompletesSummary status before.write_faults now.write_faults
    → (status ≡ ends.WriteFault → CountsFault before.write_faults now.write_faults) → now.ends ≡ before.ends → now.read_faults ≡ before.read_faults
    → CarriesOut (meaning_of_make rounds) status before now
carries_made rounds status before now leaves complete fault met reads = record {
  does = record { leaves = leaves; front = sum_front status rounds before.held now.held leaves; complete = complete };
  ended = record {
    causes = sum_causes status rounds before now leaves fault;
    over = λ told. (met, reads);
    end_once = omega (arith, met);
    usage = λ told. subst (λ (s : Status). LeavesSummary s rounds before.held now.held) told leaves;
  };
}
