-- What is claimed of this crate's definitions. The term of this record stands in proofs/Proved.
use Rattle.std.specs.Prelude.{ℕ, ◌+◌, ◌*◌, ◌≤◌, ◌≡◌, true, List, [], ◌∷◌, map, reverse, length, drop, get_or}
use Rattle.cdf_unit_prefix.specs.Layout.{Layout, prefix_of, length_at, layout_of}
use Rattle.cdf_unit_list.specs.Units.{after, unfinished, fault, listing, listing_in, depths}
use Rattle.cdf_unit_list.specs.Ranks.{ranked_units, stands_in}
use Rattle.cdf_unit_list.specs.Samples.{k1, k2, samples, all_hold}
use Rattle.cdf_unit_list.specs.declared.Unit.{Unit}
use Rattle.cdf_unit_prefix.specs.declared.Edition.TheVariants.{First}

-- What 9 names. The refused unit stands where the next one may after the last listed unit (the first of `us`), and the byte lies from
-- the end of that unit's prefix to its end. A root is never refused so.
abbrev pub Pointed : Layout → List ℕ → List Unit → ℕ → Type 0
Pointed l s [] at = ⊥
Pointed l s (u ∷ us) at = (after u + prefix_of l ≤ at) × (at ≤ after u + length_at l (drop (after u) s))

pub record Claims : Type 0 where
  -- The check's definition answers K1 to K12 as 01 says.
  pub samples_hold : all_hold samples ≡ true
  -- No bytes run out of fuel, in any layout: the unit list is whole or ends with a fault.
  pub finishes : (l : Layout) (s : List ℕ) → (listing l s).end ≡ unfinished → ⊥
  -- The same one level down, whatever the state of the enclosing unit.
  pub finishes_in : (l : Layout) (state : ℕ) (s : List ℕ) → (listing_in l state s).end ≡ unfinished → ⊥
  -- A fault's number is one that 01 gives the check: 3 to 10.
  pub numbered : (l : Layout) (s : List ℕ) {n at : ℕ} → (listing l s).end ≡ fault n at → (3 ≤ n) × (n ≤ 10)
  -- 9 names a byte of the refused unit, from the end of its prefix to its end (02, b).
  pub pointed : (l : Layout) (s : List ℕ) {at : ℕ} → (listing l s).end ≡ fault 9 at → Pointed l s (reverse (listing l s).units) at
  -- At most n / 6 units are listed of any n bytes; in another layout, n by its prefix.
  pub few : (l : Layout) (s : List ℕ) → length (listing l s).units * prefix_of l ≤ length s
  -- No listed unit is deeper than five, of any bytes: the k-th is not, for any k.
  pub shallow : (l : Layout) (s : List ℕ) (k : ℕ) → get_or (depths [] (listing l s).units) k 0 ≤ 5
  -- Depth and rank are told of every listed unit and no other, and the depths are these.
  pub deep : (l : Layout) (s : List ℕ) →
      (map (λ r. r.unit) (ranked_units l s) ≡ (listing l s).units) × (map (λ r. r.depth) (ranked_units l s) ≡ depths [] (listing l s).units)
  -- A rank times the prefix is at most where its unit starts, of any bytes: the k-th unit's, for any k.
  pub low : (l : Layout) (s : List ℕ) (k : ℕ) →
      get_or (map (λ r. r.rank) (ranked_units l s)) k 0 * prefix_of l ≤ get_or (map (λ r. r.unit.start) (ranked_units l s)) k 0
  -- The units of K1 and K2 stand where the request says (02, g).
  pub ranks_hold :
      (stands_in (layout_of First) k1 ≡ (1, 0) ∷ (2, 0) ∷ []) × (stands_in (layout_of First) k2 ≡ (1, 0) ∷ (2, 0) ∷ (3, 0) ∷ (3, 1) ∷ [])
