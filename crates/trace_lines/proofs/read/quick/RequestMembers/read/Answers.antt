use Rattle.trace_lines.proofs.Common.{Some, arith, codes, escape_byte, option_map, refl, ◌≡◌}
use Rattle.trace_lines.specs.reading.Object.{whole_number}
use Rattle.trace_lines.specs.text.QuickLines.{AreSpelled, kind_value, parent_value}
use Rattle.trace_lines.proofs.readings.QuickLinesLemmas.{slot_read}
use Rattle.trace_lines.proofs.read.quick.RequestMembers.read.Goals as goal

pub returns-in-97 : goal.returns-in-97
unfolding escape_byte
returns-in-97 c = slot_read 0 _ _ _ (codes "at") (λ d. option_map whole_number c.number_member.new.slot ≡ Some d) _ (omega arith) refl (λ _. refl) (λ d is before spelled. (before, spelled, rw is refl)) c.number_member.ensures

pub returns-in-100 : goal.returns-in-100
unfolding escape_byte
returns-in-100 c = slot_read 1 _ _ _ (codes "do") (λ d. option_map kind_value c.kind_member.new.slot ≡ Some d) _ (omega arith) refl (λ _. refl) (λ d is before spelled. (before, spelled, rw is refl)) c.kind_member.ensures

pub returns-in-102 : goal.returns-in-102
unfolding escape_byte
returns-in-102 c = slot_read 2 _ _ _ (codes "fields") (λ d. AreSpelled c.fields_member.new.slot (Some d)) _ (omega arith) refl (λ _. refl) (λ d is before spelled. (Some d, is, refl)) c.fields_member.ensures

pub returns-in-103 : goal.returns-in-103
unfolding escape_byte
returns-in-103 c = slot_read 3 _ _ _ (codes "guard") (λ d. option_map whole_number c.number_member-in-103.new.slot ≡ Some d) _ (omega arith) refl (λ _. refl) (λ d is before spelled. (before, spelled, rw is refl)) c.number_member-in-103.ensures

pub returns-in-104 : goal.returns-in-104
unfolding escape_byte
returns-in-104 c = slot_read 4 _ _ _ (codes "handle") (λ d. option_map whole_number c.number_member-in-104.new.slot ≡ Some d) _ (omega arith) refl (λ _. refl) (λ d is before spelled. (before, spelled, rw is refl)) c.number_member-in-104.ensures

pub returns-in-108 : goal.returns-in-108
unfolding escape_byte
returns-in-108 c = slot_read 5 _ _ _ (codes "lane") (λ d. option_map whole_number c.number_member-in-108.new.slot ≡ Some d) _ (omega arith) refl (λ _. refl) (λ d is before spelled. (before, spelled, rw is refl)) c.number_member-in-108.ensures

pub returns-in-112 : goal.returns-in-112
unfolding escape_byte
returns-in-112 c = slot_read 6 _ _ _ (codes "parent") (λ d. parent_value c.parent_member.new.parent ≡ Some d) _ (omega arith) refl (λ _. refl) (λ d is before spelled. (before, spelled, rw is refl)) c.parent_member.ensures

pub returns-in-115 : goal.returns-in-115
unfolding escape_byte
returns-in-115 c = slot_read 7 _ _ _ (codes "site") (λ d. option_map whole_number c.number_member-in-115.new.slot ≡ Some d) _ (omega arith) refl (λ _. refl) (λ d is before spelled. (before, spelled, rw is refl)) c.number_member-in-115.ensures
