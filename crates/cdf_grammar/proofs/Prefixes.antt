-- Prefixes as bytes: what was written is read, and what is read was written.
use Rattle.std.proofs.Common.{◌≡◌, refl, true, List, [], ◌∷◌, ◌++◌, append_assoc, ℕ, suc, ◌+◌, ◌-◌, ◌^◌, ◌≤◌, ◌<◌, arith, eqb-true, eq-eqb, eqb}
use Rattle.std.proofs.Common.{length, take, drop, get_or, length-append, drop-cons, drop-drop, take-add}
use Rattle.std.proofs.lemmas.List.{get_or_at}
use Rattle.cdf_unit_prefix.specs.Layout.{Layout, prefix_of, marked, length_at, action_at, id_at}
use Rattle.cdf_unit_table.proofs.Bools.{both}
use Rattle.cdf_grammar.specs.Encoding.{bytes_of, prefix_bytes, Bytes}
use Rattle.cdf_grammar.proofs.Numbers.{length_bytes_lem, number_read, number_written}

module _ (l : Layout) (len action id : ℕ) where
  pub length_prefix : length (prefix_bytes l len action id) ≡ prefix_of l
  unfolding prefix_bytes
  length_prefix = simp (length-append, length_bytes_lem) (omega arith)

  module _ (more : List ℕ) where
    pub mark_read : marked l (prefix_bytes l len action id ++ more) ≡ true
    unfolding prefix_bytes marked
    mark_read = rw (eq-eqb l.mark l.mark refl)

    pub length_read : len < 256 ^ l.length_bytes → length_at l (prefix_bytes l len action id ++ more) ≡ len
    unfolding prefix_bytes length_at
    length_read h = rw append_assoc (number_read l.length_bytes len (0xcd ∷ l.mark ∷ []) (action ∷ id ∷ more) h)

    pub action_read : action_at l (prefix_bytes l len action id ++ more) ≡ action
    unfolding prefix_bytes action_at
    action_read =
        rw append_assoc
        (get_or_at (0xcd ∷ l.mark ∷ bytes_of l.length_bytes len) action (id ∷ more) 0 (prefix_of l - 2)
        (simp length_bytes_lem (omega arith)))

    pub id_read : id_at l (prefix_bytes l len action id ++ more) ≡ id
    unfolding prefix_bytes id_at
    id_read =
        rw (append_assoc, ← append_assoc (bytes_of l.length_bytes len) (action ∷ []) (id ∷ more))
        (get_or_at (0xcd ∷ l.mark ∷ (bytes_of l.length_bytes len ++ (action ∷ []))) id more 0 (prefix_of l - 1)
        (simp (length-append, length_bytes_lem) (omega arith)))

two_bytes : (s : List ℕ) (at : ℕ) → at + 2 ≤ length s → take 2 (drop at s) ≡ get_or s at 0 ∷ get_or s (suc at) 0 ∷ []
two_bytes s at h = rw (drop-cons s at 0 (omega arith), drop-cons s (suc at) 0 (omega arith))

pub prefix_written : (l : Layout) (s : List ℕ) → Bytes s → marked l s ≡ true → prefix_of l ≤ length s →
    take (prefix_of l) s ≡ prefix_bytes l (length_at l s) (action_at l s) (id_at l s)
unfolding prefix_bytes marked length_at action_at id_at
prefix_written l s b m h =
    let k = l.length_bytes in
    let w = both (eqb (get_or s 0 0) 0xcd) (eqb (get_or s 1 0) l.mark) m in
    let parts : 4 + k ≡ 2 + (k + 2) = omega arith in
    let low : 4 + k - 2 ≡ 2 + k = omega arith in
    let high : 4 + k - 1 ≡ suc (2 + k) = omega arith in
    rw (
      low,
      high,
      parts,
      take-add 2 (k + 2) s,
      two_bytes s 0 (omega arith),
      eqb-true (get_or s 0 0) 0xcd w.0,
      eqb-true (get_or s 1 0) l.mark w.1,
      take-add k 2 (drop 2 s),
      number_written k 2 s b (omega arith),
      drop-drop k 2 s,
      two_bytes s (2 + k) (omega arith),
    )
