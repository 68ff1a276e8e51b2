-- The claims of this crate, proved.
use Rattle.std.proofs.Common.{ℕ, ◌≡◌, refl, ◌∙◌, not, ◌&&◌, eq-eqb, T, eqb, leb}
use Rattle.cdf_unit_table.specs.States.{rows, parents, admit, skipped}
use Rattle.cdf_unit_table.specs.Tables.{states_found, states_due, kinds_found, kinds_due}
use Rattle.cdf_unit_table.specs.Claims.{Claims}
use Rattle.cdf_unit_table.proofs.Rows.{all_rows, from_rows, from_parents, unit_state}
use Rattle.cdf_unit_table.proofs.Skipping.{skipped_complete}

states : states_found ≡ states_due
unfolding states_found
states = refl

kinds : kinds_found ≡ kinds_due
unfolding kinds_found
kinds = refl

-- A state from which no row leads admits nothing.
admits_none : (state : ℕ) → T (all_rows (λ r. not (eqb r.state state)) rows) → (child : ℕ) → admit state child ≡ 0
unfolding admit
admits_none state t child =
    from_rows (λ n. n ≡ 0) (λ r. not (eqb r.state state)) state child refl
    (λ r x d e. absurd (rw (eq-eqb r.state state d) at x)) rows t

-- No row leads from the last state of a unit, nor from 0.
skipped_admits : (state child : ℕ) → admit (skipped state) child ≡ 0
unfolding skipped
skipped_admits state child =
    from_parents (λ n. admit n child ≡ 0) (λ p. all_rows (λ r. not (eqb r.state p.last)) rows)
    (λ p. leb p.first state && leb state p.last) (λ p. p.last) (admits_none 0 tt child)
    (λ p t e. admits_none p.last t child) parents tt

pub proved : Claims
proved = record {
  states = states;
  kinds = kinds;
  skipped_admits = skipped_admits;
  skipped_complete = λ state some. skipped_complete state ∙ unit_state state some;
}
