-- The claims of this crate, proved.
use Rattle.std.proofs.Common.{ℕ, suc, ◌*◌, ◌/◌, ◌≡◌, refl, sym, ap, ◌∙◌, List, [], ◌∷◌, arith, length, take, drop, get_or, take_at, drop_at}
use Rattle.cdf_unit_prefix.specs.Layout.{layout_for}
use Rattle.cdf_unit_list.specs.Ranks.{ranked_units}
use Rattle.cdf_unit_list.specs.declared.Ranked.{Ranked}
use Rattle.cdf_reader_spec.specs.Place.{ReaderPlace}
use Rattle.cdf_reader_spec.specs.Calls.{Reply, first_of}
use Rattle.cdf_reader_spec.specs.declared.Call.TheVariants.{Start}
use Rattle.cdf_reader_spec.proofs.Replying.{start_named}
use Rattle.cdf_reader.specs.View.{view}
use Rattle.cdf_reader_numbers.specs.Numbers.{place_from, Called}
use Rattle.cdf_reader_units_spec.specs.Batch.{batch_of}
use Rattle.cdf_reader_units_spec.proofs.Proved.{proved as batch}
use Rattle.cdf_reader_units.specs.Filling.{units_numbers, list_after, room_of}
use Rattle.cdf_reader_units.proofs.Filling.{length_numbers, no_numbers, length_after}
use Rattle.cdf_reader_units_c.specs.Batched.{batch_to, Batched}
use Rattle.cdf_reader_units_c.proofs.Reading.{goes_on}
use Rattle.cdf_reader_units_c.specs.Claims.{one, other, Told, Claims}

unit_written : units_numbers (one ∷ other ∷ []) ≡ 51 ∷ 52 ∷ 53 ∷ 54 ∷ 55 ∷ 56 ∷ 57 ∷ 61 ∷ 62 ∷ 63 ∷ 64 ∷ 65 ∷ 66 ∷ 67 ∷ []
unfolding units_numbers
unit_written = refl

module _ {s before list : List ℕ} {number : ℕ} {after listed answer : List ℕ} (w : Batched s before list number after listed answer) where
  counted : get_or answer 1 0 ≡ length (batch_to s before list).units
  counted = ap (λ ns. get_or ns 1 0) w.answers

  told : Told (batch_to s before list).units listed answer
  told =
      let us = (batch_to s before list).units in
      (counted, ap (take (7 * length us)) w.fills ∙ take_at (units_numbers us) (drop (7 * length us) list) (7 * length us) (length_numbers us))

  refused : (number ≡ 0 → ⊥) → (after ≡ before) × (listed ≡ list) × (get_or answer 1 0 ≡ 0)
  refused some =
      let none = (batch.refused (layout_for s) s (view (place_from before)) (room_of list) (λ z. some (w.told ∙ z))).0 in (
        w.stays none,
        w.fills ∙ ap (λ us. list_after us list) none ∙ no_numbers list,
        counted ∙ ap length none,
      )

  behind : (drop (7 * get_or answer 1 0) listed ≡ drop (7 * get_or answer 1 0) list) × (length listed ≡ length list)
  behind =
      let us = (batch_to s before list).units in
      let few = batch.within (layout_for s) s (view (place_from before)) (room_of list) in (
        ap (λ n. drop (7 * n) listed) counted ∙ ap (drop (7 * length us)) w.fills
            ∙ drop_at (units_numbers us) (drop (7 * length us) list) (7 * length us) (length_numbers us)
            ∙ sym (ap (λ n. drop (7 * n) list) counted),
        ap length w.fills ∙ length_after us list (omega (arith, few)),
      )

tail_is : (root r : Ranked) (units us vs : List Ranked) (n : ℕ) → units ≡ root ∷ us → r ∷ vs ≡ take (suc n) units → vs ≡ take n us
tail_is root r units us vs n e h = ap (drop 1) (h ∙ ap (take (suc n)) e)

-- After a start a batch of any room is the front of the units behind the root.
module _ (s place first : List ℕ) (root : Ranked) (units : List Ranked) (e : ranked_units (layout_for s) s ≡ root ∷ units) (given : List ℕ)
    (c : Called Start s given 0 place first) where
  behind_root : (room : ℕ) → (batch_of (layout_for s) s (view (place_from place)) room).units ≡ take room units
  behind_root room =
      let begun = start_named (layout_for s) s (view (place_from given)) in
      let zero : (first_of (layout_for s) s).number ≡ 0 = sym (c.told ∙ ap (λ (r : Reply). r.number) begun) in
      let at : view (place_from place) ≡ (first_of (layout_for s) s).place = c.moves ∙ ap (λ (r : Reply). r.place) begun in
      ap (λ (p : ReaderPlace). (batch_of (layout_for s) s p room).units) at
      ∙ tail_is root (first_of (layout_for s) s).handed (ranked_units (layout_for s) s) units
      (batch_of (layout_for s) s (first_of (layout_for s) s).place room).units room e (batch.reads (layout_for s) s room zero)

  reads : (list : List ℕ) (number : ℕ) (after listed answer : List ℕ) → Batched s place list number after listed answer →
      Told (take (length list / 7) units) listed answer
  reads list number after listed answer w = rw (← behind_root (room_of list)) (told w)

  reads_on : (list : List ℕ) (number : ℕ) (after listed answer : List ℕ) → Batched s place list number after listed answer →
      (list2 : List ℕ) (number2 : ℕ) (after2 listed2 answer2 : List ℕ) → Batched s after list2 number2 after2 listed2 answer2 →
      Told (take (length list2 / 7) (drop (length list / 7) units)) listed2 answer2
  reads_on list number after listed answer w list2 number2 after2 listed2 answer2 v =
      let next = goes_on (layout_for s) s (view (place_from place)) units behind_root (room_of list) (room_of list2) in
      let due : (batch_to s after list2).units ≡ take (length list2 / 7) (drop (length list / 7) units) =
      ap (λ (p : ReaderPlace). (batch_of (layout_for s) s p (room_of list2)).units) w.moves ∙ next in
      rw (← due) (told v)

pub proved : Claims
proved = record {
  unit_written = unit_written;
  refused = λ s before list number after listed answer w. refused w;
  behind = λ s before list number after listed answer w. behind w;
  reads = λ s place first list number after listed answer root units e given c w.
      reads s place first root units e given c list number after listed answer w;
  reads_on = λ s place first list number after listed answer root units e given c.
      reads_on s place first root units e given c list number after listed answer;
}
