-- The library's bytes of a number, the last of them.
use Rattle.cdf_grammar.specs.Encoding.{bytes_of}
use Rattle.cdf_grammar.proofs.Numbers.{length_bytes_lem}
use Rattle.cdf_builder_copy.proofs.Onto.{onto_some}
use Rattle.cdf_builder_write.proofs.Fronts.{last_bytes}
use Rattle.cdf_builder_write.proofs.put_number.Goals as goal

pub returns : goal.returns
returns c =
    let a = c.args in
    let long = length_bytes_lem a.width a.number in
    rw (c.copy.ensures, c.to_be_bytes.ensures, last_bytes a.width a.number c.requires.0)
    (rw long at (onto_some (bytes_of a.width a.number) a.tail.now (rw long c.requires.1)))
