-- The prefix, and then the data in the tail behind it.
use Rattle.std.proofs.Common.{◌-◌, ◌∙◌, rules, length, take, drop}
use Rattle.cdf_unit_prefix.specs.Layout.{layout_of}
use Rattle.cdf_builder_copy.proofs.Lent.{lent}
use Rattle.cdf_builder_copy.proofs.Onto.{onto_some}
use Rattle.cdf_builder_write.proofs.Lent.{unit_stored}
use Rattle.cdf_builder_write.proofs.put_unit.Goals as goal

pub returns : goal.returns
returns c =
    let a = c.args in
    let l = layout_of a.edition in
    let text = a.«data».now in
    let k = c.prefix-p.result in
    let s = c.put_prefix.new.tail in
    let is = c.prefix-p.ensures.is in
    let stored = unit_stored l a.id a.action text a.tail.now s (rw is at c.put_prefix.ensures) in
    lent k (length text) text s c.copy.new.tail (c.copy.ensures ∙ onto_some text (take (length s - k) (drop k s)) (search rules)) ∙ rw is stored
