-- 6, 7, 12, and else the root's prefix (proofs/Calling).
use Rattle.std.proofs.Common.{sym, ◌∙◌}
use Rattle.cdf_unit_table.proofs.Options.{some_told, told_some}
use Rattle.cdf_unit_table.proofs.Rows.{root_opens}
use Rattle.cdf_reader_spec.specs.Slots.{around_of, held_of}
use Rattle.cdf_builder_spec.proofs.Replying.{start_zero, start_done}
use Rattle.cdf_builder_calls.proofs.Calling.{id_byte, start_unknown, start_inner, start_full}
use Rattle.cdf_builder_calls.proofs.start_as.Goals as goal

pub returns-then-not-is_known : goal.returns-then-not-is_known
unfolding held_of
returns-then-not-is_known c = sym (start_unknown _ _ _ (sym c.is_known.ensures ∙ c.if-not-is_known.true))

pub returns-then-not-is_root_kind : goal.returns-then-not-is_root_kind
unfolding held_of
returns-then-not-is_root_kind c =
    sym (start_inner _ _ _ (sym c.is_known.ensures ∙ c.if-not-is_known.false) (sym c.is_root_kind.ensures ∙ c.if-not-is_root_kind.true))

pub returns-then-buffer-written : goal.returns-then-buffer-written
unfolding held_of
returns-then-buffer-written c =
    let is = sym c.is_known.ensures ∙ c.if-not-is_known.false in
    let kind = sym c.is_root_kind.ensures ∙ c.if-not-is_root_kind.false in
    sym (start_full _ _ _ is kind (rw c.prefix-written.ensures.is at c.if-buffer-written.true))

pub unwrap-state-requires : goal.unwrap-state-requires
unwrap-state-requires c = rw c.first_state.ensures (told_some _ (root_opens _ (sym c.is_root_kind.ensures ∙ c.if-not-is_root_kind.false)))

pub returns : goal.returns
unfolding held_of around_of
returns c =
    let prefix = c.prefix-written.ensures.is in
    let is = sym c.is_known.ensures ∙ c.if-not-is_known.false in
    let kind = sym c.is_root_kind.ensures ∙ c.if-not-is_root_kind.false in
    rw (prefix, (some_told _ _ (sym c.first_state.ensures ∙ c.unwrap-state.ensures)).0, c.write_unit.ensures, id_byte _ is)
    (sym (start_done _ _ _ ((start_zero _ _ _).1 (kind, rw prefix at c.if-buffer-written.false))))
