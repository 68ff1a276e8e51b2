-- Where a call answers 0, the struct has a slot for each unit that is open then.
use Rattle.std.proofs.Common.{ℕ, ◌≤◌, ◌≡◌, ap, ◌∙◌, arith, ne_eqb, length}
use Rattle.cdf_unit_prefix.specs.Layout.{Layout}
use Rattle.cdf_builder_spec.specs.Place.{BuilderPlace}
use Rattle.cdf_builder_spec.specs.Requests.{Request, grown}
use Rattle.cdf_builder_spec.specs.Calls.{Decision, call_number, decide_of}
use Rattle.cdf_builder_spec.specs.declared.Begun.{Begun}
use Rattle.cdf_builder_spec.proofs.Keeping.{next_fits}
use Rattle.cdf_builder_spec.proofs.Proved.{proved}
use Rattle.cdf_reader_spec.proofs.Counted.{length_held}
use Rattle.cdf_builder_spec.specs.Slots.{no_begun, placed}
use Rattle.cdf_builder_decide.specs.Grown.{Growable}
use Rattle.cdf_builder_spec.specs.declared.Parts.{Parts}
use Rattle.cdf_builder_decide.proofs.Stages.{decided, decided_done, Grows}

pub few : (l : Layout) (n : ℕ) (p : BuilderPlace) (r : Request) → call_number l n p r ≡ 0 → length (grown l p r).units ≤ 4
few l n p r e = proved.four l n (grown l p r) (next_fits l n p r e)

-- As many units as the count says.
count_is : (p : Parts) → length (placed p).units ≡ p.units.count
count_is p = length_held no_begun p.units.count p.units.top p.units.o1 p.units.o2 p.units.o3

module _ (l : Layout) (n : ℕ) (p : Parts) (r : Request) where
  pub few_after : (q : Parts) → record { number = 0; place = placed q } ≡ decide_of l n (placed p) r → q.units.count ≤ 4
  few_after q d =
      let number = decided_done l n (placed p) r q d in
      let place = ap (λ (x : Decision). x.place) (d ∙ decided l n (placed p) r 0 number) in
      omega (arith, few l n (placed p) r number, ap (λ (x : BuilderPlace). length x.units) place, count_is q)

  -- So a unit that is entered has one.
  pub growable : (count : ℕ) (top : Begun) (size first : ℕ) → Grows l n p r count top size first →
      Growable l n p count size first
  growable count top size first g = record {
    sum = g.sum;
    slot = λ room some.
        let long = rw (g.place, ne_eqb first 0 some) at (few l n (placed p) r (g.number ∙ room)) in
        (g.some, omega (arith, long, length_held no_begun count top p.units.o1 p.units.o2 p.units.o3));
  }
