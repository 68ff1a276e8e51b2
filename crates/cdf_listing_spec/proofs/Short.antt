-- How long the text is.
use Rattle.std.proofs.Common.{ℕ, suc, ◌+◌, ◌-◌, ◌*◌, ◌^◌, ◌≤◌, ◌<◌, ◌≡◌, refl, List, [], ◌∷◌, ◌++◌, ⊎_elim, arith, ne_eqb, length, get_or}
use Rattle.std.proofs.Common.{length-append}
use Rattle.cdf_unit_prefix.specs.Layout.{Layout, layout_of}
use Rattle.cdf_unit_prefix.specs.declared.Edition.TheVariants.{First}
use Rattle.cdf_unit_list.specs.Units.{End, unfinished, ended, fault, listing, depths}
use Rattle.cdf_unit_list.specs.Check.{answer_of}
use Rattle.cdf_unit_list.specs.declared.Unit.{Unit}
use Rattle.cdf_unit_list.proofs.Proved.{proved}
use Rattle.cdf_reader_runs.proofs.Readings.{check_is}
use Rattle.cdf_listing_spec.specs.Text.{number, columns, line_of, lines_of, listed_lines, ok_line, refused_line, listing_text}
use Rattle.cdf_listing_spec.specs.Claims.{text_room, room_by}
use Rattle.cdf_listing_spec.proofs.Digits.{few_digits, below_power}
use Rattle.cdf_listing_spec.proofs.Within.{Fair, EachFair, OfEnd, within, limited}

module _ (n : ℕ) (small : n < 10 ^ 5) where
  -- At most 19 bytes: two numbers of five digits, one of two and two of one, four spaces and the line feed.
  line_short : (depth : ℕ) (u : Unit) → depth ≤ 5 → Fair n u → length (line_of depth u) ≤ 19
  unfolding line_of columns number
  line_short depth u deep f =
      let start = few_digits 4 u.start (omega arith) in
      let level = few_digits 0 depth (omega arith) in
      let id = few_digits 1 u.id (omega arith) in
      let action = few_digits 0 u.action (omega arith) in
      let size = few_digits 4 (u.end - u.start) (omega arith) in
      simp length-append (omega arith)

  lines_short : (ds : List ℕ) (us : List Unit) → ((k : ℕ) → get_or ds k 0 ≤ 5) → EachFair n us → length (lines_of ds us) ≤ 19 * length us
  unfolding lines_of
  lines_short [] us deep fair = omega arith
  lines_short (d ∷ ds) [] deep fair = omega arith
  lines_short (d ∷ ds) (u ∷ us) deep fair =
      let one = line_short d u (deep 0) fair.0 in
      let rest = lines_short ds us (λ k. deep (suc k)) fair.1 in
      simp length-append (omega arith)

pub ok_short : (k n : ℕ) → n < 10 ^ suc k → length (ok_line n) ≤ 5 + k
unfolding ok_line
ok_short k n h = let digits = few_digits k n h in simp length-append (omega arith)

pub refused_short : (j k n offset : ℕ) → n < 10 ^ suc j → offset < 10 ^ suc k → length (refused_line n offset) ≤ 15 + (j + k)
unfolding refused_line
refused_short j k n offset h i =
    let number = few_digits j n h in
    let place = few_digits k offset i in
    simp length-append (omega arith)

-- A line of 19 bytes at most for each unit: bytes past the longest stream have none.
lines_by_units : (s : List ℕ) → length (listed_lines (layout_of First) s) ≤ 19 * length (listing (layout_of First) s).units
unfolding listed_lines lines_of depths
lines_by_units s =
    let l = layout_of First in
    let us = (listing l s).units in
    ⊎_elim (λ none. rw none (omega arith))
    (λ some. lines_short (length s) (omega arith) (depths [] us) us (proved.shallow l s) (within l s).0)
    (limited l s)

-- Of any bytes: at most 10,922 units.
units_few : (s : List ℕ) → length (listing (layout_of First) s).units ≤ 10922
units_few s =
    let l = layout_of First in
    ⊎_elim (λ none. rw none (omega arith)) (λ some. omega (arith, proved.few l s)) (limited l s)

pub listed_short : (s : List ℕ) → length (listed_lines (layout_of First) s) ≤ 207518
listed_short s = omega (arith, lines_by_units s, units_few s)

module _ (l : Layout) (s : List ℕ) where
  -- The text of an accepted stream,
  pub ok_text : (listing l s).end ≡ ended → listing_text l s ≡ listed_lines l s ++ ok_line (length (listing l s).units)
  unfolding listing_text answer_of
  ok_text e = rw (check_is l s, e)

  -- and of any other bytes.
  pub refused_text : (n offset : ℕ) → (listing l s).end ≡ fault n offset → listing_text l s ≡ refused_line n offset
  unfolding listing_text answer_of
  refused_text n offset e =
      let w = proved.numbered l s e in rw (check_is l s, e, ne_eqb n 0 (λ z. omega arith))

-- Any text fits where lines for all bytes do, and a refusal whose offset has as many digits as there are bytes.
text_within : (s : List ℕ) (room : ℕ) → room_by (length s) ≤ room → 16 + length s ≤ room → length (listing_text (layout_of First) s) ≤ room
text_within s room lines line = go (listing (layout_of First) s).end refl (within (layout_of First) s).1
  where
    go : (e : End) → (listing (layout_of First) s).end ≡ e → OfEnd (length s) e → length (listing_text (layout_of First) s) ≤ room
    go unfinished q f = absurd (proved.finishes (layout_of First) s q)
    go ended q f =
        let ok = ok_short 4 (length (listing (layout_of First) s).units) (omega (arith, units_few s)) in
        rw (ok_text (layout_of First) s q)
        (simp length-append (omega (arith, ok, lines_by_units s, proved.few (layout_of First) s)))
    go (fault n offset) q f =
        let w = proved.numbered (layout_of First) s q in
        let refusal = refused_short 1 offset n offset (omega arith) (below_power offset) in
        rw (refused_text (layout_of First) s n offset q) (omega arith)

pub short : (s : List ℕ) → length s ≤ 65536 → length (listing_text (layout_of First) s) ≤ text_room
short s h = text_within s text_room (omega arith) (omega arith)

pub roomy : (s : List ℕ) → 6 ≤ length s → length (listing_text (layout_of First) s) ≤ room_by (length s)
roomy s h = text_within s (room_by (length s)) (omega arith) (omega arith)
