-- Each arm by the range of states that admit its child, compared with the rows at every state; any other child is admitted
-- nowhere, by a test over the rows.
use Rattle.std.proofs.Common.{◌≡◌, ap, refl, ◌∙◌, [], ◌∷◌, arith}
use Rattle.cdf_unit_table.specs.Ids.{member, call, parameter, er_group, template, field, relation, ordered_relation, file_group, line}
use Rattle.cdf_unit_table.specs.States.{some_state, admit, stream_new, stream_call, stream_group, er_new, er_data, file_new, file_lines}
use Rattle.cdf_unit_table.specs.States.{call_new, call_parameters, template_temporary, template_fields}
use Rattle.cdf_unit_table.proofs.Match.{each}
use Rattle.cdf_unit_table.proofs.Options.{told_if}
use Rattle.cdf_unit_table.proofs.Rows.{ranged, no_child}
use Rattle.cdf_unit_table.proofs.state_after.Goals as goal

pub returns-in-2 : goal.returns-in-2
unfolding admit
returns-in-2 c =
    let state = c.args.state in
    rw c.in-2.is (c.within.ensures ∙ told_if _ _ ∙ ap some_state (ranged stream_new stream_group stream_call call (omega arith) refl state))

pub returns-in-4 : goal.returns-in-4
unfolding admit
returns-in-4 c =
    let state = c.args.state in
    each (λ k. c.within-in-4.result ≡ some_state (admit state k)) (er_group ∷ file_group ∷ []) (
      c.within-in-4.ensures ∙ told_if _ _ ∙ ap some_state (ranged stream_call stream_call stream_group er_group (omega arith) refl state),
      (c.within-in-4.ensures ∙ told_if _ _ ∙ ap some_state (ranged stream_call stream_call stream_group file_group (omega arith) refl state), tt),
    ) _ c.in-4.is

pub returns-in-3 : goal.returns-in-3
unfolding admit
returns-in-3 c =
    let state = c.args.state in
    rw c.in-3.is (c.within-in-3.ensures ∙ told_if _ _ ∙ ap some_state (ranged call_new call_parameters call_parameters parameter (omega arith) refl state))

pub returns-in-5 : goal.returns-in-5
unfolding admit
returns-in-5 c =
    let state = c.args.state in
    each (λ k. c.within-in-5.result ≡ some_state (admit state k)) (template ∷ relation ∷ []) (
      c.within-in-5.ensures ∙ told_if _ _ ∙ ap some_state (ranged er_new er_data er_data template (omega arith) refl state),
      (c.within-in-5.ensures ∙ told_if _ _ ∙ ap some_state (ranged er_new er_data er_data relation (omega arith) refl state), tt),
    ) _ c.in-5.is

pub returns-in-10 : goal.returns-in-10
unfolding admit
returns-in-10 c =
    let state = c.args.state in
    rw c.in-10.is (c.within-in-10.ensures ∙ told_if _ _ ∙ ap some_state (ranged er_new er_data er_data ordered_relation (omega arith) refl state))

pub returns-in-6 : goal.returns-in-6
returns-in-6 c = rw c.in-6.is c.after_temporary.ensures

pub returns-in-7 : goal.returns-in-7
returns-in-7 c = rw c.in-7.is c.after_key.ensures

pub returns-in-8 : goal.returns-in-8
unfolding admit
returns-in-8 c =
    let state = c.args.state in
    rw c.in-8.is (c.within-in-8.ensures ∙ told_if _ _
    ∙ ap some_state (ranged template_temporary template_fields template_fields field (omega arith) refl state))

pub returns-in-11 : goal.returns-in-11
returns-in-11 c = rw c.in-11.is c.after_end.ensures.0

pub returns-in-12 : goal.returns-in-12
returns-in-12 c = rw c.in-12.is c.after_end-in-12.ensures.1

pub returns-in-14 : goal.returns-in-14
unfolding admit
returns-in-14 c =
    let state = c.args.state in
    rw c.in-14.is (c.within-in-14.ensures ∙ told_if _ _ ∙ ap some_state (ranged file_new file_lines file_lines line (omega arith) refl state))

pub returns-in_default : goal.returns-in_default
unfolding member
returns-in_default c =
    ap some_state
    (no_child
    ((14 ∷ []) ∷ (12 ∷ []) ∷ (11 ∷ []) ∷ (8 ∷ []) ∷ (7 ∷ []) ∷ (6 ∷ []) ∷ (10 ∷ []) ∷ (5 ∷ 9 ∷ []) ∷ (3 ∷ []) ∷ (4 ∷ 13 ∷ []) ∷ (2 ∷ []) ∷ [])
    tt _ _ c.in_default.in_default-own.rest)
