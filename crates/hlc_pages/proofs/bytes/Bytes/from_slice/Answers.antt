use Rattle.std.proofs.Common.{rules}
use Rattle.hlc_pages.proofs.bytes.Bytes.from_slice.Goals as goal

pub returns-in_err-from_slice-clause-inline : goal.returns-in_err-from_slice-clause-inline
returns-in_err-from_slice-clause-inline c = search rules

pub returns-in_err-heap-clause-inline : goal.returns-in_err-heap-clause-inline
returns-in_err-heap-clause-inline c = search rules

pub returns-then-len-gt-INLINE_LEN-clause-ok : goal.returns-then-len-gt-INLINE_LEN-clause-ok
returns-then-len-gt-INLINE_LEN-clause-ok c = search rules
