-- Eleven stores.
use Rattle.std.proofs.Common.{◌≤◌, ap, ◌∙◌, ◌++◌, append-nil, arith, length, drop_of_length-le}
use Rattle.std.proofs.lemmas.List.Edits.{sets-eq}
use Rattle.cdf_reader_numbers.specs.Taking.{part_is}
use Rattle.cdf_reader_replay_spec.specs.Replay.{entry_of}
use Rattle.cdf_reader_replay.proofs.write_numbers.Goals as goal

pub returns : goal.returns
returns c =
    let a = c.args in
    let all = entry_of (record { number = a.number; offset = a.offset; part = part_is a.part; handed = a.handed }) in
    let room : 11 ≤ length a.entry.now = omega (arith, c.requires) in
    let full : length a.entry.now ≤ 11 = omega (arith, c.requires) in
    sets-eq all a.entry.now 0 room ∙ ap (λ l. all ++ l) (drop_of_length-le a.entry.now full) ∙ append-nil all
