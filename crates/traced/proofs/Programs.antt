-- What the proofs of a program take from here, from one place.
pub use Rattle.std.proofs.Common.{◌≡◌, refl, sym, subst, ◌∙◌, arith}
pub use Rattle.traced.proofs.changes.Begins.{starts_two}
pub use Rattle.traced.proofs.changes.Between.{makes_and_closes, enters_and_exits, tells_if_answered}
pub use Rattle.traced.proofs.AsksLemmas.{ask_made, with_made, close_made, with_asked, ready_asked, held_asked, close_asked, with_entered, with_turned, tell_closed, tell_entered, exit_entered}
pub use Rattle.traced.proofs.KeptLemmas.{turned_ready, turned_ends, may_make, may_tell, may_enter, may_close, held_kept, keeps_quiet, next_made, next_entered, keeps_late, keeps_again, keeps_closed, ready_made, held_made, ready_entered, held_entered, may_exit_kept, ready_late, ready_alike, failed, ends_failed, ends_done, ends_unmade, ends_refused, ends_first, ends_closed, ends_exited, ends_told, ends_late, ends_again, ends_so, ends_as, ends_asked, ends_then_told, ends_told_inside, ends_turned}
