-- A pass over a list, from the request that is next.
use Rattle.std.proofs.Common.{ℕ, suc, ◌+◌, ◌<◌, ◌≤◌, ◌≡◌, sym, ap, ◌∙◌, List, length, get_or, drop, drop_of_length-le, ne_eqb, Bool}
use Rattle.std.proofs.Math.Numerals.{add-one}
use Rattle.std.proofs.Math.Seq.{drop-cons}
use Rattle.cdf_refusal.specs.Numbers.{number_of}
use Rattle.cdf_refusal.specs.declared.Refusal.{Refusal}
use Rattle.cdf_refusal.proofs.Apart.{refuses}
use Rattle.cdf_unit_prefix.specs.Layout.{Layout}
use Rattle.cdf_builder_spec.specs.Place.{BuilderPlace}
use Rattle.cdf_batch_spec.specs.declared.UnitRequest.{UnitRequest}
use Rattle.cdf_batch_turn.specs.Passes.{Going, stopped, turn_of, pass_of, from_place}
use Rattle.cdf_batch_turn.proofs.Twice.{pass_cons, pass_none, pass_still}

module _ (l : Layout) (text : List ℕ) (g : Going) (rs : List UnitRequest) (k : ℕ) where
  -- Past the last request the pass is over.
  pub over : length rs ≤ k → pass_of l text g k (drop k rs) ≡ g
  over h = ap (pass_of l text g k) (drop_of_length-le rs h) ∙ pass_none l text g k

  -- One request more: the one at k, whatever stands in for it past the end.
  pub one_more : k < length rs → (z : UnitRequest) (d : Going) → d ≡ turn_of l text g k (get_or rs k z) →
      pass_of l text d (k + 1) (drop (k + 1) rs) ≡ pass_of l text g k (drop k rs)
  one_more h z d e =
      ap (λ (x : Going). pass_of l text x (k + 1) (drop (k + 1) rs)) e
      ∙ ap (λ (j : ℕ). pass_of l text (turn_of l text g k (get_or rs k z)) j (drop j rs)) (add-one k)
      ∙ sym (ap (pass_of l text g k) (drop-cons rs k z h) ∙ pass_cons l text g k (get_or rs k z) (drop (suc k) rs))

  -- The one at k is refused: the pass ends there.
  pub stops : k < length rs → (z : UnitRequest) (w : Bool) (q : BuilderPlace) (e : Refusal) (s : List ℕ) →
      stopped w q e k s ≡ turn_of l text g k (get_or rs k z) → (p : BuilderPlace) →
      stopped w p e k s ≡ from_place p (pass_of l text g k (drop k rs))
  stops h z w q e s t p =
      let all : pass_of l text g k (drop k rs) ≡ stopped w q e k s
      = sym (one_more h z (stopped w q e k s) t) ∙ pass_still l text (stopped w q e k s) (refuses e) (k + 1) (drop (k + 1) rs) in
      rw (all, ne_eqb (number_of e) 0 (refuses e))
