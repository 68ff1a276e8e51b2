-- A tail that was lent, when it is back with new bytes at its front.
use Rattle.std.proofs.Common.{◌≡◌, refl, sym, ◌∙◌, Bool, true, false, List, [], ◌∷◌, ◌++◌, append_assoc, append-nil, ℕ, suc, ◌+◌, ◌-◌, ◌≤◌, arith}
use Rattle.std.proofs.Common.{leb-true, leb-false, leb, length, take, drop, get_or, set, length-append, take_at, drop_at, drop-cons, drop-drop}
use Rattle.std.proofs.lemmas.List.{set_at}
use lib.Seq.{append_snoc}
use borrow.Rule.Slice.PartMut.{put_mid}
use Rattle.cdf_unit_prefix.specs.Layout.{Layout, prefix_of}
use Rattle.cdf_grammar.specs.Encoding.{bytes_of, prefix_bytes, unit_bytes}
use Rattle.cdf_grammar.proofs.Numbers.{length_bytes_lem}
use Rattle.cdf_grammar.proofs.Prefixes.{length_prefix}
use Rattle.cdf_grammar.proofs.Built.{unit_is, length_unit}
use Rattle.cdf_builder_copy.proofs.Lent.{lent}
use Rattle.cdf_builder_write.specs.Patch.{patch}
use Rattle.cdf_builder_write.proofs.Patching.{patch_some, patch_none}

module _ (at n : ℕ) (new s tail : List ℕ) (size : length new ≡ n)
    (is : tail ≡ new ++ drop n (take (length s - at) (drop at s))) where
  patched : at + n ≤ length s → put_mid at (length s - at) s tail ≡ patch at new s
  patched room = lent at n new s tail is ∙ sym (rw size at (patch_some at new s (rw size room)))

-- Whether there is room is asked first: where there is, bytes are put to the front of the lent tail, and else all stays.
module _ (at n : ℕ) (new s : List ℕ) (size : length new ≡ n) (may : Bool) (asked : may ≡ leb (at + n) (length s)) where
  pub wrote : may ≡ true → (tail : List ℕ) → tail ≡ new ++ drop n (take (length s - at) (drop at s)) →
      put_mid at (length s - at) s tail ≡ patch at new s
  wrote e tail is = patched at n new s tail size is (leb-true (at + n) (length s) (sym asked ∙ e))

  pub stayed : may ≡ false → s ≡ patch at new s
  stayed e = sym (patch_none at new s (rw size (leb-false (at + n) (length s) (sym asked ∙ e))))

-- A prefix is stored around its length.
module _ (l : Layout) (len action id : ℕ) where
  prefix_is : prefix_bytes l len action id ≡ 0xcd ∷ l.mark ∷ (bytes_of l.length_bytes len ++ (action ∷ id ∷ []))
  unfolding prefix_bytes
  prefix_is = refl

  pub prefix_stored : (s : List ℕ) → prefix_of l ≤ length s →
      let s' = set (set s 0 0xcd) 1 l.mark in
      let k = l.length_bytes in
      set (set (take 2 s' ++ (bytes_of k len ++ drop (2 + k) s')) (k + 2) action) (k + 3) id
      ≡ prefix_bytes l len action id ++ drop (prefix_of l) s
  prefix_stored [] h = absurd (omega arith)
  prefix_stored (a ∷ []) h = absurd (omega arith)
  prefix_stored (a ∷ b ∷ s) h =
      let k = l.length_bytes in
      let front : List ℕ = 0xcd ∷ l.mark ∷ bytes_of k len in
      let more = drop (suc (suc k)) s in
      let y = get_or s k 0 in
      let z = get_or s (suc k) 0 in
      let cut : drop k s ≡ y ∷ z ∷ more = rw (drop-cons s k 0 (omega arith), drop-cons s (suc k) 0 (omega arith)) in
      let long : length front ≡ k + 2 = simp length_bytes_lem (omega arith) in
      let longer : length (front ++ (action ∷ [])) ≡ k + 3 = simp (length-append, length_bytes_lem) (omega arith) in
      let first = set_at front y (z ∷ more) action (k + 2) long in
      let second = set_at (front ++ (action ∷ [])) z more id (k + 3) longer in
      let two : 2 + k ≡ suc (suc k) = omega arith in
      let four : prefix_of l ≡ suc (suc (suc (suc k))) = omega arith in
      rw (two, four, cut, first, ← append_snoc front action (z ∷ more), second, prefix_is) (simp append_assoc)

-- A unit with nothing nested in it is its prefix with its data behind.
module _ (l : Layout) (id action : ℕ) (text : List ℕ) where
  pub length_alone : length (unit_bytes l id action text []) ≡ prefix_of l + length text
  length_alone = omega (arith, length_unit l id action text [])

  pub unit_stored : (s s' : List ℕ) → s' ≡ prefix_bytes l (prefix_of l + length text) action id ++ drop (prefix_of l) s →
      take (prefix_of l) s' ++ (text ++ drop (prefix_of l + length text) s')
      ≡ unit_bytes l id action text [] ++ drop (prefix_of l + length text) s
  unit_stored s s' e =
      let p = prefix_of l in
      let n = length text in
      let front = prefix_bytes l (p + n) action id in
      let size = length_prefix l (p + n) action id in
      let none : n + 0 ≡ n = omega arith in
      rw (
        e,
        take_at front (drop p s) p size,
        ← drop-drop n p (front ++ drop p s),
        drop_at front (drop p s) p size,
        drop-drop n p s,
        unit_is,
        none,
        append-nil,
        append_assoc,
      )
