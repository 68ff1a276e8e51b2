-- The lengths of open units that are written into the front of a buffer, which may be any bytes, and behind it.
use Rattle.std.proofs.Common.{ℕ, ◌+◌, ◌-◌, ◌≤◌, ◌≡◌, sym, ap, ap₂, ◌∙◌, List, [], ◌∷◌, ◌++◌, map, arith, length, take, drop, length-append}
use Rattle.std.proofs.Common.{take-append-drop, length-take-le}
use Rattle.cdf_unit_prefix.specs.Layout.{Layout, prefix_of}
use Rattle.cdf_grammar.specs.Encoding.{bytes_of}
use Rattle.cdf_grammar.proofs.Numbers.{length_bytes_lem}
use Rattle.cdf_builder_write.specs.Patch.{patch}
use Rattle.cdf_builder_write.proofs.Patching.{patch_some, patch_in, patch_behind, patch_front}
use Rattle.cdf_builder_spec.specs.Calls.{lengths}
use Rattle.cdf_builder_spec.specs.declared.Begun.{Begun}
use Rattle.cdf_builder_spec.proofs.Lengths.{lengths_none, lengths_one, length_lengths}
use Rattle.cdf_builder_spec.proofs.Nested.{Nested, Written}

-- A patch over one of the same length.
patch_twice : (at : ℕ) (new old s : List ℕ) → length new ≡ length old → at + length new ≤ length s →
    patch at new (patch at old s) ≡ patch at new s
patch_twice at new old s same room =
    let front = take at s in
    let back = drop (at + length old) s in
    let long : length front ≡ at = length-take-le at s (omega arith) in
    ap (patch at new) (patch_some at old s (omega arith))
    ∙ (rw long at (patch_in front old back new (sym same)))
    ∙ ap (λ (k : ℕ). front ++ (new ++ drop (at + k) s)) (sym same)
    ∙ sym (patch_some at new s room)

-- An open unit that stands so many bytes further.
abbrev pub further : ℕ → Begun → Begun
further base o = record { state = o.state; start = base + o.start }

module _ (l : Layout) where
  -- The prefixes of these units lie one behind the other, and before n.
  abbrev pub Apart : ℕ → List Begun → Type 0
  Apart n [] = record {}
  Apart n (o ∷ os) = (o.start + prefix_of l ≤ n) × Apart o.start os

  pub nested_apart : (w : ℕ) (os : List Begun) → Nested l os → Written l w os → Apart w os
  nested_apart w [] h e = absurd h
  nested_apart w (o ∷ []) h e = (e, record {})
  nested_apart w (o ∷ p ∷ os) h e = (e, nested_apart o.start (p ∷ os) h.3 h.2)

  abbrev number : ℕ → Begun → List ℕ
  number w o = bytes_of l.length_bytes (w - o.start)

  pub lengths_both : (w : ℕ) (xs ys : List Begun) (s : List ℕ) → lengths l w (xs ++ ys) s ≡ lengths l w xs (lengths l w ys s)
  lengths_both w [] ys s = sym (lengths_none l w (lengths l w ys s))
  lengths_both w (x ∷ xs) ys s =
      lengths_one l w x (xs ++ ys) s ∙ ap (patch (x.start + 2) (number w x)) (lengths_both w xs ys s) ∙ sym (lengths_one l w x xs (lengths l w ys s))

  -- In the front.
  pub lengths_front : (w n : ℕ) (os : List Begun) (a b : List ℕ) → Apart n os → n ≤ length a → lengths l w os (a ++ b) ≡ lengths l w os a ++ b
  lengths_front w n [] a b h room = lengths_none l w (a ++ b) ∙ ap (λ (x : List ℕ). x ++ b) (sym (lengths_none l w a))
  lengths_front w n (o ∷ os) a b h room =
      let inside : o.start + 2 + length (number w o) ≤ length (lengths l w os a) =
      omega (arith, length_bytes_lem l.length_bytes (w - o.start), length_lengths l w os a, h.0) in
      lengths_one l w o os (a ++ b)
      ∙ ap (patch (o.start + 2) (number w o)) (lengths_front w o.start os a b h.1 (omega (arith, h.0)))
      ∙ patch_front (o.start + 2) (number w o) (lengths l w os a) b inside
      ∙ ap (λ (x : List ℕ). x ++ b) (sym (lengths_one l w o os a))

  -- Behind it.
  pub lengths_behind : (base w : ℕ) (os : List Begun) (a b : List ℕ) → length a ≡ base →
      lengths l (base + w) (map (further base) os) (a ++ b) ≡ a ++ lengths l w os b
  lengths_behind base w [] a b long = lengths_none l (base + w) (a ++ b) ∙ ap (λ (x : List ℕ). a ++ x) (sym (lengths_none l w b))
  lengths_behind base w (o ∷ os) a b long =
      let at : base + o.start + 2 - length a ≡ o.start + 2 = omega arith in
      let same : base + w - (base + o.start) ≡ w - o.start = omega arith in
      lengths_one l (base + w) (further base o) (map (further base) os) (a ++ b)
      ∙ ap (patch (base + o.start + 2) (number (base + w) (further base o))) (lengths_behind base w os a b long)
      ∙ patch_behind (base + o.start + 2) (number (base + w) (further base o)) a (lengths l w os b) (omega arith)
      ∙ ap₂ (λ (k m : ℕ). a ++ patch k (bytes_of l.length_bytes m) (lengths l w os b)) at same
      ∙ ap (λ (x : List ℕ). a ++ x) (sym (lengths_one l w o os b))

  -- At the end of the front and before that.
  lengths_split : (w : ℕ) (o : Begun) (os : List Begun) (a b : List ℕ) → length a ≡ o.start → Apart o.start os →
      lengths l w (o ∷ os) (a ++ b) ≡ lengths l w os a ++ patch 2 (number w o) b
  lengths_split w o os a b long h =
      let same = length_lengths l w os a in
      let at : o.start + 2 - length (lengths l w os a) ≡ 2 = omega arith in
      lengths_one l w o os (a ++ b)
      ∙ ap (patch (o.start + 2) (number w o)) (lengths_front w o.start os a b h (omega arith))
      ∙ patch_behind (o.start + 2) (number w o) (lengths l w os a) b (omega arith)
      ∙ ap (λ (k : ℕ). lengths l w os a ++ patch k (number w o) b) at

  -- Only the last lengths count.
  pub lengths_again : (w v n : ℕ) (os : List Begun) (s : List ℕ) → Apart n os → n ≤ length s → lengths l w os (lengths l v os s) ≡ lengths l w os s
  lengths_again w v n [] s h room = ap (lengths l w []) (lengths_none l v s)
  lengths_again w v n (o ∷ os) s h room =
      let a = take o.start s in
      let b = drop o.start s in
      let long : length a ≡ o.start = length-take-le o.start s (omega (arith, h.0)) in
      let parts : a ++ b ≡ s = take-append-drop o.start s in
      let all : length a + length b ≡ length s = sym (length-append a b) ∙ ap length parts in
      let new = length_bytes_lem l.length_bytes (w - o.start) in
      let old = length_bytes_lem l.length_bytes (v - o.start) in
      rw parts at (
      ap (lengths l w (o ∷ os)) (lengths_split v o os a b long h.1)
      ∙ lengths_split w o os (lengths l v os a) (patch 2 (number v o) b) (length_lengths l v os a ∙ long) h.1
      ∙ ap₂ (λ (x y : List ℕ). x ++ y) (lengths_again w v o.start os a h.1 (omega arith))
      (patch_twice 2 (number w o) (number v o) b (new ∙ sym old) (omega (arith, h.0)))
      ∙ sym (lengths_split w o os a b long h.1)
      )
