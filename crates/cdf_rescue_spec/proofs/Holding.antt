-- What an E/R group takes as its first, in the words of the published grammar.
use Rattle.std.proofs.Common.{ℕ, ◌≤◌, ◌≡◌, refl, sym, ◌∙◌, not, List, [], ◌∷◌, ◌↔◌, ne_eqb, eqb}
use Rattle.std.proofs.lemmas.Bool.{eqb-false, not-true}
use Rattle.cdf_unit_table.specs.Ids.{member, er_group, template, relation, ordered_relation, ids_end}
use Rattle.cdf_unit_table.specs.States.{nothing, admit}
use Rattle.cdf_unit_table.proofs.Tables.{same}
use Rattle.cdf_unit_table.proofs.Tests.{not_member}
use Rattle.cdf_unit_table.proofs.Rows.{admit_unknown}
use Rattle.cdf_grammar.specs.Published.{Among}
use Rattle.cdf_grammar.proofs.KindsAgree.{among}

abbrev pub group_ids : List ℕ
group_ids = template ∷ relation ∷ ordered_relation ∷ []

beyond : (id : ℕ) → ids_end ≤ id → member id group_ids ≡ not (eqb (admit (nothing er_group) id) 0)
beyond id h = rw (not_member group_ids ids_end tt id h, admit_unknown (nothing er_group) id h)

admitted : (id : ℕ) → member id group_ids ≡ not (eqb (admit (nothing er_group) id) 0)
unfolding member admit nothing
admitted = same (λ id. member id group_ids) (λ id. not (eqb (admit (nothing er_group) id) 0)) ids_end refl beyond

pub group_admits : (id : ℕ) → Among id group_ids ↔ (admit (nothing er_group) id ≡ 0 → ⊥)
group_admits id =
    let state = admit (nothing er_group) id in (
      λ a. eqb-false state 0 (not-true (eqb state 0) (sym (admitted id) ∙ (among id group_ids).0 a)),
      λ may. (among id group_ids).1 (rw (admitted id, ne_eqb state 0 may)),
    )
