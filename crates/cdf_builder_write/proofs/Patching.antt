-- What a patch leaves, in the parts of the list that it is made to.
use Rattle.std.proofs.Common.{◌≡◌, refl, List, ◌++◌, append_assoc, ℕ, ◌+◌, ◌-◌, ◌≤◌, ◌<◌, arith, leb-true, leb-false, le-leb, leb, length, take, drop}
use Rattle.std.proofs.Common.{length-append, length-take, length-drop, drop_at}
use Rattle.std.proofs.lemmas.Bool.{lt-leb}
use Rattle.std.proofs.lemmas.List.{take-append-le, drop-append-le}
use lib.Seq.{take-append_seam, take-append-add, drop-append-add}
use Rattle.cdf_unit_table.proofs.Bools.{of_cond}
use Rattle.cdf_builder_write.specs.Patch.{patch}

-- Where there is room: what stands before, the new bytes, and what stands behind them.
pub patch_some : (at : ℕ) (new s : List ℕ) → at + length new ≤ length s →
    patch at new s ≡ take at s ++ (new ++ drop (at + length new) s)
unfolding patch
patch_some at new s h = rw (le-leb (at + length new) (length s) h)

pub patch_none : (at : ℕ) (new s : List ℕ) → length s < at + length new → patch at new s ≡ s
unfolding patch
patch_none at new s h = rw (lt-leb (at + length new) (length s) h)

-- What holds of the list with the new bytes where there is room, and of the list itself where there is none, holds of the patch.
pub of_patch : (P : List ℕ → Type 0) (at : ℕ) (new s : List ℕ) →
    (at + length new ≤ length s → P (take at s ++ (new ++ drop (at + length new) s))) →
    (length s < at + length new → P s) → P (patch at new s)
unfolding patch
of_patch P at new s some none =
    of_cond P (leb (at + length new) (length s)) _ s (λ e. some (leb-true _ _ e)) (λ e. none (leb-false _ _ e))

pub length_patch : (at : ℕ) (new s : List ℕ) → length (patch at new s) ≡ length s
length_patch at new s =
    of_patch (λ t. length t ≡ length s) at new s
    (λ h. simp (length-append, length-take, length-drop) (omega arith))
    (λ h. refl)

-- As many bytes as were there before.
pub patch_in : (a old b new : List ℕ) → length old ≡ length new → patch (length a) new (a ++ (old ++ b)) ≡ a ++ (new ++ b)
patch_in a old b new e =
    let room : length a + length new ≤ length (a ++ (old ++ b)) = simp length-append (omega arith) in
    rw (patch_some _ _ _ room, take-append_seam, drop-append-add, drop_at old b (length new) e)

behind : (k : ℕ) (new a b : List ℕ) → patch (length a + k) new (a ++ b) ≡ a ++ patch k new b
behind k new a b =
    let at = length a + k in
    let all = length-append a b in
    let sum : at + length new ≡ length a + (k + length new) = omega arith in
    of_patch (λ t. patch at new (a ++ b) ≡ a ++ t) k new b
    (λ room. rw (patch_some at new (a ++ b) (omega arith), sum, take-append-add, drop-append-add, append_assoc))
    (λ none. patch_none at new (a ++ b) (omega arith))

-- A patch that begins behind the front part is one of the rest, also where there is no room.
pub patch_behind : (at : ℕ) (new a b : List ℕ) → length a ≤ at → patch at new (a ++ b) ≡ a ++ patch (at - length a) new b
patch_behind at new a b h = let e : length a + (at - length a) ≡ at = omega arith in rw e at (behind (at - length a) new a b)

-- A patch that ends within the front part is one of it.
pub patch_front : (at : ℕ) (new a b : List ℕ) → at + length new ≤ length a → patch at new (a ++ b) ≡ patch at new a ++ b
patch_front at new a b h =
    let all = length-append a b in
    rw (patch_some at new a, patch_some at new (a ++ b) (omega arith), take-append-le at a b (omega arith), drop-append-le) (simp append_assoc)
