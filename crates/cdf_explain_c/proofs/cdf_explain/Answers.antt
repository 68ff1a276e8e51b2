-- The number of what explain answers, and its entries (proofs/Entries).
use Rattle.std.proofs.Common.{◌≡◌, refl, ap, ◌∙◌, List, ◌∷◌, ◌++◌, rules, ℕ, get_or}
use Rattle.std.proofs.lemmas.List.{length-map}
use Rattle.std.specs.Prelude.{None}
use Rattle.cdf_unit_prefix.specs.Layout.{layout_for}
use Rattle.cdf_explain_spec.specs.Why.{why_of}
use Rattle.cdf_explain.specs.Numbers.{ExplainedNumbers, numbers_of, numbers_told, explained_by}
use Rattle.cdf_explain_c.proofs.Entries.{entries, units_written, written_is}
use Rattle.cdf_explain_c.proofs.cdf_explain.Goals as goal

pub returns-in_default-clause-answer : goal.returns-in_default-clause-answer
returns-in_default-clause-answer c =
    written_is (why_of (layout_for c.args.s.now) c.args.s.now) (numbers_told None) (rw c.in_default.is at c.explain.ensures.is) refl refl

pub returns : goal.returns
unfolding explained_by
returns c =
    let why = why_of (layout_for c.args.s.now) c.args.s.now in
    let told = c.in-Some.told in
    let is : numbers_of told ≡ explained_by why = c.in-Some.ensures.is in
    let rest : List ℕ = told.choices.count ∷ entries 14 (λ i. get_or told.choices.ids i 0) in
    record {
      number = ap (λ (e : ExplainedNumbers). e.number) is;
      answer = ap (λ us. told.offset ∷ told.depth ∷ (us ++ rest)) (units_written told.units)
          ∙ written_is why (numbers_of told) is (rw length-map (search rules)) (search rules);
    }
