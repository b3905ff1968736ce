use Rattle.std.proofs.Common.{◌≡◌, drop}
use Rattle.std.specs.Prelude.{bytes_eq, find, unwrap_or}
use Rattle.hlc_audit_forms.specs.JsonMember.{member_name, member_of_word}
use Rattle.hlc_audit_forms.specs.declared.json_member.TheConstants.{MEMBERS}
use Rattle.hlc_audit_forms.specs.declared.json_member.JsonMember.TheVariants.{Answers}
use Rattle.hlc_audit_forms.proofs.json_member.JsonMember.of_word.Given as goal

-- the member is found among those that are left
abbrev pub invariant-loop-member : goal.invariant-loop-member
invariant-loop-member l = unwrap_or (find (λ m. bytes_eq (member_name m) l.word) (drop l.member-index MEMBERS)) Answers ≡ member_of_word l.word
