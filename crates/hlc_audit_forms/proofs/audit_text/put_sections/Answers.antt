use Rattle.std.proofs.Common.{◌∙◌, ◌++◌, ◌≤◌, ◌<◌, List, ap, arith, flat_map, get_or, length, map, sym, take, take_all}
use Rattle.std.proofs.lemmas.List.{flat_map_more, take_more}
use Rattle.csv.specs.Records.{fields_of}
use Rattle.hlc_audit_forms.specs.AuditText.{section_text, sections_text}
use Rattle.hlc_audit_forms.specs.declared.text_section.TextSection.{TextSection}
use Rattle.hlc_audit_forms.specs.declared.text_section.TextSection.TheVariants.{Messages}
use Rattle.hlc_audit_forms.specs.declared.text_section.TheConstants.{SECTIONS}
use Rattle.hlc_audit_forms.proofs.audit_text.put_sections.Goals as goal

pub loop-section-preserved : goal.loop-section-preserved
loop-section-preserved c =
    let told = section_text (map fields_of c.args.rows.now) in
    let old = c.args.text.now.items in
    let at = c.loop-section.section-index in
    let within : at < length SECTIONS = omega arith in
    rw c.loop-section.invariant at c.in_ok-put_section.ensures ∙ flat_map_more told old (take at SECTIONS) (get_or SECTIONS at Messages)
    ∙ ap (λ (ss : List TextSection). old ++ flat_map told ss) (sym (take_more SECTIONS at Messages within))

pub returns : goal.returns
unfolding sections_text
returns c =
    let at = c.loop-section.section-index in
    let beyond : length SECTIONS ≤ at = omega arith in
    rw (take_all at SECTIONS beyond) at c.loop-section.invariant
