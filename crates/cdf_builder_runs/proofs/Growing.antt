-- Growing: more bytes and new lengths of the open units turn the encoding of trees, all open units ending here, into that of
-- the longer ones. For any depth, any ids and any layout.
use Rattle.std.proofs.Common.{ℕ, ◌+◌, ◌-◌, ◌≤◌, ◌≡◌, refl, sym, ◌∙◌, List, [], ◌∷◌, ◌++◌, append_assoc, append-nil, arith, length, take, drop}
use Rattle.std.proofs.Common.{length-append, take-append-drop, length-take-le}
use Rattle.cdf_unit_prefix.specs.Layout.{Layout, prefix_of}
use Rattle.cdf_grammar.specs.Trees.{Forest, none, tree}
use Rattle.cdf_grammar.specs.Encoding.{bytes_of, prefix_bytes, encode}
use Rattle.cdf_grammar.proofs.Numbers.{length_bytes_lem}
use Rattle.cdf_grammar.proofs.Prefixes.{length_prefix}
use Rattle.cdf_grammar.proofs.Built.{encode_none, encode_tree, unit_is, length_unit}
use Rattle.cdf_builder_write.specs.Patch.{patch}
use Rattle.cdf_builder_write.proofs.Patching.{patch_in}
use Rattle.cdf_builder_spec.specs.Calls.{lengths}
use Rattle.cdf_builder_spec.specs.declared.Begun.{Begun}
use Rattle.cdf_builder_spec.proofs.Lengths.{lengths_one}
use Rattle.cdf_builder_runs.proofs.Forests.{append, encode_append}

-- An open unit: the whole trees before it in the unit around it, and what it says itself.
pub record Frame : Type 0 where
  pub before : Forest
  pub id : ℕ
  pub action : ℕ
  pub text : List ℕ

-- Once it ends, with these trees in it.
abbrev pub shut : Frame → Forest → Forest
shut f kids = append f.before (tree f.id f.action f.text kids none)

-- Open units, the innermost first: the trees once all end, with these trees in the innermost.
unfoldable pub shut_all : List Frame → Forest → Forest
shut_all [] kids = kids
shut_all (f ∷ fs) kids = shut_all fs (shut f kids)

module _ (l : Layout) where
  -- What an open unit and the trees before it come to, with its length.
  unfoldable pub frame_bytes : ℕ → Frame → List ℕ
  frame_bytes len f = encode l f.before ++ (prefix_bytes l len f.action f.id ++ f.text)

  -- How many bytes the open units take, without what the innermost has had.
  unfoldable pub size : List Frame → ℕ
  size [] = 0
  size (f ∷ fs) = size fs + (length (encode l f.before) + (prefix_of l + length f.text))

  -- Where one starts, inside these.
  abbrev pub start_in : List Frame → Frame → ℕ
  start_in fs f = size fs + length (encode l f.before)

  pub size_one : (f : Frame) (fs : List Frame) → size (f ∷ fs) ≡ start_in fs f + (prefix_of l + length f.text)
  unfolding size
  size_one f fs = omega arith

  -- The bytes of open units that end at w, up to what the innermost has had.
  unfoldable pub heads : ℕ → List Frame → List ℕ
  heads w [] = []
  heads w (f ∷ fs) = heads w fs ++ frame_bytes (w - start_in fs f) f

  length_frame : (len : ℕ) (f : Frame) → length (frame_bytes len f) ≡ length (encode l f.before) + (prefix_of l + length f.text)
  unfolding frame_bytes
  length_frame len f = simp (length-append, length_prefix)

  pub length_heads : (w : ℕ) (fs : List Frame) → length (heads w fs) ≡ size fs
  unfolding heads size
  length_heads w [] = refl
  length_heads w (f ∷ fs) =
      rw (length-append (heads w fs) (frame_bytes (w - start_in fs f) f), length_heads w fs, length_frame (w - start_in fs f) f)

  -- The open units start where the builder's place says.
  abbrev pub Placed : List Frame → List Begun → Type 0
  Placed [] [] = record {}
  Placed [] (o ∷ os) = ⊥
  Placed (f ∷ fs) [] = ⊥
  Placed (f ∷ fs) (o ∷ os) = (o.start ≡ start_in fs f) × Placed fs os

  -- The length of one open unit, with bytes before and behind it.
  frame_parts : (len : ℕ) (f : Frame) (a z : List ℕ) →
      a ++ (frame_bytes len f ++ z)
      ≡ (a ++ (encode l f.before ++ (0xcd ∷ l.mark ∷ []))) ++ (bytes_of l.length_bytes len ++ ((f.action ∷ f.id ∷ f.text) ++ z))
  unfolding frame_bytes prefix_bytes
  frame_parts len f a z = simp append_assoc

  relength_one : (len new : ℕ) (f : Frame) (a z : List ℕ) →
      patch (length a + length (encode l f.before) + 2) (bytes_of l.length_bytes new) (a ++ (frame_bytes len f ++ z))
      ≡ a ++ (frame_bytes new f ++ z)
  relength_one len new f a z =
      let front = a ++ (encode l f.before ++ (0xcd ∷ l.mark ∷ [])) in
      let at : length a + length (encode l f.before) + 2 ≡ length front = simp length-append (omega arith) in
      rw (at, frame_parts len f a z, frame_parts new f a z)
      (patch_in front (bytes_of l.length_bytes len) ((f.action ∷ f.id ∷ f.text) ++ z) (bytes_of l.length_bytes new)
      (length_bytes_lem l.length_bytes len ∙ sym (length_bytes_lem l.length_bytes new)))

  -- The new lengths of all open units.
  pub relength : (w new : ℕ) (fs : List Frame) (os : List Begun) (z : List ℕ) → Placed fs os →
      lengths l new os (heads w fs ++ z) ≡ heads new fs ++ z
  unfolding heads lengths
  relength w new [] [] z p = refl
  relength w new [] (o ∷ os) z p = absurd p
  relength w new (f ∷ fs) [] z p = absurd p
  relength w new (f ∷ fs) (o ∷ os) z (at, around) =
      let len = w - start_in fs f in
      let same : o.start + 2 ≡ length (heads new fs) + length (encode l f.before) + 2 = omega (arith, length_heads new fs) in
      rw (
        append_assoc (heads w fs) (frame_bytes len f) z,
        relength w new fs os (frame_bytes len f ++ z) around,
        same,
        at,
        append_assoc (heads new fs) (frame_bytes (new - start_in fs f) f) z,
      )
      (relength_one len (new - start_in fs f) f (heads new fs) z)

  encode_shut : (f : Frame) (kids : Forest) →
      encode l (shut f kids) ≡ frame_bytes (prefix_of l + (length f.text + length (encode l kids))) f ++ encode l kids
  unfolding frame_bytes
  encode_shut f kids = rw (encode_append l, encode_tree l, encode_none, append-nil, unit_is l) (simp append_assoc)

  -- The innermost open unit ends here.
  pub shut_one : (w : ℕ) (f : Frame) (fs : List Frame) (kids : Forest) → w ≡ size (f ∷ fs) + length (encode l kids) →
      (heads w (f ∷ fs) ++ encode l kids ≡ heads w fs ++ encode l (shut f kids)) × (w ≡ size fs + length (encode l (shut f kids)))
  unfolding heads size
  shut_one w f fs kids e =
      let inside = length (encode l kids) in
      let len : w - start_in fs f ≡ prefix_of l + (length f.text + inside) = omega arith in (
        rw (len, encode_shut f kids) (append_assoc (heads w fs) (frame_bytes (prefix_of l + (length f.text + inside)) f) (encode l kids)),
        rw (encode_shut f kids, length-append, length_frame) (omega arith),
      )

  -- All of them do.
  pub shut_all_lem : (w : ℕ) (fs : List Frame) (kids : Forest) → w ≡ size fs + length (encode l kids) →
      heads w fs ++ encode l kids ≡ encode l (shut_all fs kids)
  unfolding heads size shut_all
  shut_all_lem w [] kids e = refl
  shut_all_lem w (f ∷ fs) kids e = let one = shut_one w f fs kids e in one.0 ∙ shut_all_lem w fs (shut f kids) one.1

  -- The open units, with these trees in the innermost, and what stands behind them. They end at w.
  module _ (w : ℕ) (fs : List Frame) (os : List Begun) (kids : Forest) (placed : Placed fs os)
      (ends : w ≡ size fs + length (encode l kids)) (back : List ℕ) where
    -- Trees that are added.
    module _ (x : Forest) (room : length (encode l x) ≤ length back) where
      abbrev added : List ℕ
      added = encode l x

      pub grow : lengths l (w + length added) os (patch w added ((heads w fs ++ encode l kids) ++ back))
          ≡ (heads (w + length added) fs ++ encode l (append kids x)) ++ drop (length added) back
      grow =
          let front = heads w fs ++ encode l kids in
          let old = take (length added) back in
          let rest = drop (length added) back in
          let at : length front ≡ w = rw (length-append, length_heads w fs) (sym ends) in
          let put : patch w added (front ++ back) ≡ front ++ (added ++ rest) =
          rw (take-append-drop, at) at (patch_in front old rest added (length-take-le (length added) back room)) in
          rw (put, append_assoc (heads w fs) (encode l kids) (added ++ rest), encode_append l kids x)
          (relength w (w + length added) fs os (encode l kids ++ (added ++ rest)) placed ∙ simp append_assoc)

  -- A unit that is added and stays open: its own length is right as it is written.
  module _ (w state : ℕ) (f : Frame) (fs : List Frame) (os : List Begun) (placed : Placed fs os) (ends : w ≡ start_in fs f)
      (back : List ℕ) where
    abbrev leaf : Forest
    leaf = tree f.id f.action f.text none none

    pub grow_open : (new : ℕ) → new ≡ w + length (encode l leaf) → length (encode l leaf) ≤ length back →
        lengths l new (record { state = state; start = w } ∷ os) (patch w (encode l leaf) ((heads w fs ++ encode l f.before) ++ back))
        ≡ (heads new (f ∷ fs) ++ encode l none) ++ drop (length (encode l leaf)) back
    unfolding heads size
    grow_open new e room =
        let rest = drop (length (encode l leaf)) back in
        let len = new - start_in fs f in
        let size-leaf : length (encode l leaf) ≡ prefix_of l + (length f.text + 0) =
        rw (encode_tree l, encode_none, append-nil, length_unit l) in
        let one = (shut_one new f fs none (rw encode_none (omega arith))).0 in
        let grown = rw (← e) at (grow w fs os f.before placed ends back leaf room) in
        let same : new - w ≡ len = omega arith in
        let at : w + 2 ≡ length (heads new fs) + length (encode l f.before) + 2 = omega (arith, length_heads new fs) in
        let written : (heads new fs ++ encode l (append f.before leaf)) ++ rest ≡ heads new fs ++ (frame_bytes len f ++ rest) =
        rw (← one, encode_none) (simp (append-nil, append_assoc)) in
        let done : heads new fs ++ (frame_bytes len f ++ rest) ≡ (heads new (f ∷ fs) ++ encode l none) ++ rest =
        rw encode_none (simp (append-nil, append_assoc)) in
        lengths_one l new (record { state = state; start = w }) os _
        ∙ (rw (grown, written, same, at) (relength_one len len f (heads new fs) rest ∙ done))
