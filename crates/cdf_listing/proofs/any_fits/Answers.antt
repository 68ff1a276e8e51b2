-- The lines that there is room for are compared, and not their bytes.
use Rattle.std.proofs.Common.{◌≡◌, refl, sym, Bool, true, false, ℕ, ◌-◌, ◌/◌, ◌≤◌, arith, leb-true, leb-false, le-leb, leb}
use Rattle.std.proofs.lemmas.Bool.{lt-leb}
use Rattle.cdf_listing_spec.specs.Claims.{room_by}
use Rattle.cdf_listing.specs.Written.{any_fits}
use Rattle.cdf_listing.proofs.any_fits.Goals as goal

by_lines : (n room : ℕ) → 9 ≤ room → leb (n / 6) ((room - 9) / 19) ≡ leb (room_by n) room
by_lines n room h = go (leb (n / 6) ((room - 9) / 19)) refl
  where
    go : (b : Bool) → leb (n / 6) ((room - 9) / 19) ≡ b → b ≡ leb (room_by n) room
    go true e = sym (le-leb (room_by n) room (omega (arith, leb-true (n / 6) ((room - 9) / 19) e)))
    go false e = sym (lt-leb (room_by n) room (omega (arith, leb-false (n / 6) ((room - 9) / 19) e)))

pub returns-then-room-lt9 : goal.returns-then-room-lt9
unfolding any_fits
returns-then-room-lt9 c = let a = c.args in rw (lt-leb (room_by a.n) a.room (omega (arith, c.if-room-lt9.true)))

pub returns : goal.returns
unfolding any_fits
returns c = let a = c.args in rw (by_lines a.n a.room c.if-room-lt9.false)
