use Rattle.std.proofs.Common.{◌≡◌, ◌∙◌, List, ℕ, Option, true, false, ap, get_or, sym}
use Rattle.std.specs.Prelude.{bytes_eq, unwrap_or}
use Rattle.hlc_audit_forms.specs.JsonMember.{member_name}
use Rattle.hlc_audit_forms.specs.declared.json_member.JsonMember.{JsonMember}
use Rattle.hlc_audit_forms.specs.declared.json_member.JsonMember.TheVariants.{Answers, Bad}
use Rattle.hlc_audit_forms.specs.declared.json_member.TheConstants.{MEMBERS}
use Rattle.hlc_audit_forms.proofs.FoundItems.{first-here, first-later}
use Rattle.hlc_audit_forms.proofs.json_member.JsonMember.of_word.Goals as goal

abbrev or_answers : Option JsonMember → JsonMember
or_answers found = unwrap_or found Answers

pub returns-then-eq : goal.returns-then-eq
returns-then-eq c =
    let word = c.args.word.now in
    let test = λ (m : JsonMember). bytes_eq (member_name m) word in
    let is : test (get_or MEMBERS c.loop-member.member-index Bad) ≡ true =
    ap (λ (name : List ℕ). bytes_eq name word) (sym c.name.ensures) ∙ sym c.eq.ensures ∙ c.if-eq.true in
    ap or_answers (sym (first-here test MEMBERS c.loop-member.member-index Bad c.loop-member-test.true is)) ∙ c.loop-member.invariant

pub loop-member-preserved : goal.loop-member-preserved
loop-member-preserved c =
    let word = c.args.word.now in
    let test = λ (m : JsonMember). bytes_eq (member_name m) word in
    let is : test (get_or MEMBERS c.loop-member.member-index Bad) ≡ false =
    ap (λ (name : List ℕ). bytes_eq name word) (sym c.name.ensures) ∙ sym c.eq.ensures ∙ c.if-eq.false in
    ap or_answers (sym (first-later test MEMBERS c.loop-member.member-index Bad c.loop-member-test.true is)) ∙ c.loop-member.invariant
