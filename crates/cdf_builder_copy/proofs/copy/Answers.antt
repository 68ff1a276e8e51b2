-- By whether there is room, and then by how many there are.
use Rattle.std.proofs.Common.{sym, ◌∙◌, arith}
use Rattle.cdf_builder_copy.proofs.Onto.{onto_some, onto_none}
use Rattle.cdf_builder_copy.proofs.copy.Goals as goal

pub returns-then-tail-bytes : goal.returns-then-tail-bytes
returns-then-tail-bytes c = let a = c.args in sym (onto_none a.bytes.now a.tail.now c.if-tail-bytes.true)

pub returns-then-bytes-lt4 : goal.returns-then-bytes-lt4
returns-then-bytes-lt4 c = let a = c.args in c.copy_few.ensures ∙ sym (onto_some a.bytes.now a.tail.now (omega arith))

pub returns-then-bytes-lt8 : goal.returns-then-bytes-lt8
returns-then-bytes-lt8 c = let a = c.args in c.copy_by.ensures ∙ sym (onto_some a.bytes.now a.tail.now (omega arith))

pub returns-then-bytes-lt32 : goal.returns-then-bytes-lt32
returns-then-bytes-lt32 c = let a = c.args in c.copy_by-then-bytes-lt32.ensures ∙ sym (onto_some a.bytes.now a.tail.now (omega arith))

pub returns-then-bytes-lt128 : goal.returns-then-bytes-lt128
returns-then-bytes-lt128 c = let a = c.args in c.copy_by-then-bytes-lt128.ensures ∙ sym (onto_some a.bytes.now a.tail.now (omega arith))

pub returns : goal.returns
returns c = let a = c.args in c.copy_by-2.ensures ∙ sym (onto_some a.bytes.now a.tail.now (omega arith))
