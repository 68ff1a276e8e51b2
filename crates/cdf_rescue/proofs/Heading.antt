-- The group's prefix, written before what it holds.
use Rattle.std.proofs.Common.{ℕ, ◌+◌, ◌≤◌, ◌≡◌, sym, ◌∙◌, List, [], ◌∷◌, ◌++◌, append-nil, append_assoc, arith, length, take, drop, length-append}
use Rattle.std.proofs.Common.{length-take}
use Rattle.cdf_unit_table.specs.Ids.{er_group}
use Rattle.cdf_unit_prefix.specs.Layout.{Layout, prefix_of}
use Rattle.cdf_grammar.specs.Encoding.{bytes_of, prefix_bytes, unit_bytes}
use Rattle.cdf_grammar.proofs.Built.{unit_is}
use Rattle.cdf_grammar.proofs.Numbers.{length_bytes_lem}
use Rattle.cdf_grammar.proofs.Prefixes.{length_prefix}
use Rattle.cdf_builder_write.specs.Patch.{patch}
use Rattle.cdf_builder_write.proofs.Patching.{patch_some, patch_in}
use Rattle.cdf_rescue_spec.specs.Salvage.{group_of}

module _ (l : Layout) (inner s : List ℕ) (room : prefix_of l + length inner ≤ length s) where
  -- What stands behind the prefix.
  abbrev behind : List ℕ
  behind = inner ++ drop (prefix_of l + length inner) s

  prefix_is : (len : ℕ) →
      prefix_bytes l len 0 er_group ++ behind ≡ (0xcd ∷ l.mark ∷ []) ++ (bytes_of l.length_bytes len ++ (0 ∷ er_group ∷ behind))
  unfolding prefix_bytes
  prefix_is len = simp append_assoc

  alone : unit_bytes l er_group 0 [] [] ≡ prefix_bytes l (prefix_of l) 0 er_group
  alone = let none : prefix_of l + 0 ≡ prefix_of l = omega arith in unit_is l er_group 0 [] [] ∙ rw (none, append-nil)

  first : patch 0 (unit_bytes l er_group 0 [] []) (patch (prefix_of l) inner s) ≡ prefix_bytes l (prefix_of l) 0 er_group ++ behind
  first =
      let long : length (take (prefix_of l) s) ≡ length (prefix_bytes l (prefix_of l) 0 er_group) =
      omega (arith, length-take (prefix_of l) s, length_prefix l (prefix_of l) 0 er_group) in
      rw (alone, patch_some (prefix_of l) inner s room) (patch_in [] (take (prefix_of l) s) behind (prefix_bytes l (prefix_of l) 0 er_group) long)

  whole : patch 0 (group_of l inner) s ≡ prefix_bytes l (prefix_of l + length inner) 0 er_group ++ behind
  unfolding group_of
  whole =
      let size : 0 + length inner ≡ length inner = omega arith in
      let front = prefix_bytes l (prefix_of l + length inner) 0 er_group in
      let is : group_of l inner ≡ front ++ inner = unit_is l er_group 0 [] inner ∙ rw size in
      let long : 0 + length (front ++ inner) ≡ prefix_of l + length inner =
      omega (arith, length-append front inner, length_prefix l (prefix_of l + length inner) 0 er_group) in
      rw (is, patch_some 0 (front ++ inner) s (omega arith), long) (append_assoc front inner (drop (prefix_of l + length inner) s))

  -- The prefix, then its length.
  headed : patch (0 + 2) (bytes_of l.length_bytes (prefix_of l + length inner))
      (patch 0 (unit_bytes l er_group 0 [] []) (patch (prefix_of l) inner s))
      ≡ patch 0 (group_of l inner) s
  headed =
      let k = l.length_bytes in
      let n = prefix_of l + length inner in
      let long : length (bytes_of k (prefix_of l)) ≡ length (bytes_of k n) = length_bytes_lem k (prefix_of l) ∙ sym (length_bytes_lem k n) in
      rw (first, prefix_is (prefix_of l), whole, prefix_is n)
      (patch_in (0xcd ∷ l.mark ∷ []) (bytes_of k (prefix_of l)) (0 ∷ er_group ∷ behind) (bytes_of k n) long)

  pub all_written : (size : ℕ) (held unit out : List ℕ) → size ≡ prefix_of l + length inner → held ≡ patch (prefix_of l) inner s →
      unit ≡ patch 0 (unit_bytes l er_group 0 [] []) held → out ≡ patch (0 + 2) (bytes_of l.length_bytes size) unit →
      out ≡ patch 0 (group_of l inner) s
  all_written size held unit out e a b c = c ∙ rw (b, a, e) headed
