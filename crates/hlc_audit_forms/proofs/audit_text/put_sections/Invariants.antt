use Rattle.std.proofs.Common.{◌≡◌, ◌++◌, flat_map, map, take}
use Rattle.csv.specs.Records.{fields_of}
use Rattle.hlc_audit_forms.specs.AuditText.{section_text}
use Rattle.hlc_audit_forms.specs.declared.text_section.TheConstants.{SECTIONS}
use Rattle.hlc_audit_forms.proofs.audit_text.put_sections.Given as goal

abbrev pub invariant-loop-section : goal.invariant-loop-section
invariant-loop-section l = l.text.items ≡ l.fn.text.items ++ flat_map (section_text (map fields_of l.rows)) (take l.section-index SECTIONS)
