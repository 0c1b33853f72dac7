-- The first fault of many
use Rattle.std.proofs.Common.{◌≡◌, ◌<◌, ◌≤◌, ◌+◌, ◌-◌, ℕ, suc, Bool, true, false, if◌then◌else◌, Option, Some, None, List, [], refl, arith, ◌&&◌, drop, get_or, length, add-one}
use Rattle.std.specs.Prelude.{is_some}
use Rattle.std.proofs.Math.Seq.{drop-cons}
use Rattle.std.specs.Option.{option_or}
use Rattle.std.specs.List.{list_all}
use Rattle.h3_directions.specs.declared.direction.Direction.{Direction}
use Rattle.h3_directions.specs.declared.error.TableError.{TableError}
use Rattle.h3_directions.specs.Direction.{directions}
use Rattle.h3_table.specs.Links.{is_hexagon_base}
use Rattle.h3_table.specs.Checks.{from_base, in_directions}

-- the first fault from b on: that at b, or the first from the next on
pub from-next : (f : ℕ → Direction → Option TableError) (b : ℕ) → b < 122
    → from_base f b (122 - b)
    ≡ option_or (if is_hexagon_base b then in_directions (f b) directions else None)
    (from_base f (b + 1) (122 - (b + 1)))
unfolding from_base
from-next f b h =
    let e : 122 - b ≡ suc (122 - (b + 1)) = omega arith in rw e refl

pub from-none : (f : ℕ → Direction → Option TableError) (b : ℕ) → 122 ≤ b → from_base f b (122 - b) ≡ None
unfolding from_base
from-none f b h = let e : 122 - b ≡ 0 = omega arith in rw e refl

pub some-next : (o n : Option TableError) → is_some o ≡ true → option_or o n ≡ o
some-next None n e = cc e
some-next (Some x) n e = refl

pub none-next : (o n : Option TableError) → is_some o ≡ false → option_or o n ≡ n
none-next None n e = refl
none-next (Some x) n e = cc e

-- the first fault in the directions from a place on: that there, or the first from the next on
pub directions-some : (f : Direction → Option TableError) (ds : List Direction) (i : ℕ) (d : Direction)
    (o : Option TableError)
    → i < length ds
    → o ≡ f (get_or ds i d) → is_some o ≡ true → in_directions f (drop i ds) ≡ o
unfolding in_directions
directions-some f ds i d o h e s = rw (drop-cons ds i d h, ← e) (some-next o _ s)

pub directions-none : (f : Direction → Option TableError) (ds : List Direction) (i : ℕ) (d : Direction)
    (o : Option TableError)
    → i < length ds
    → o ≡ f (get_or ds i d) → is_some o ≡ false → in_directions f (drop i ds) ≡ in_directions f (drop (i + 1) ds)
unfolding in_directions
directions-none f ds i d o h e s = rw (drop-cons ds i d h, add-one, ← e) (none-next o _ s)

-- the test in each direction from a place on
pub each-next : (p : Direction → Bool) (ds : List Direction) (i : ℕ) (d : Direction) (o : Bool) → i < length ds
    → o ≡ p (get_or ds i d)
    → list_all p (drop i ds) ≡ o && list_all p (drop (i + 1) ds)
each-next p ds i d o h e = rw (drop-cons ds i d h, add-one, ← e) refl

-- what comes of one base cell and the next
pub base-some : (f : ℕ → Direction → Option TableError) (b : ℕ) (o : Option TableError) → b < 122
    → is_hexagon_base b ≡ true
    → o ≡ in_directions (f b) directions → is_some o ≡ true → from_base f b (122 - b) ≡ o
base-some f b o h e k s = rw (from-next f b h, e, ← k) (some-next o _ s)

pub base-none : (f : ℕ → Direction → Option TableError) (b : ℕ) (o : Option TableError) → b < 122
    → is_hexagon_base b ≡ true
    → o ≡ in_directions (f b) directions → is_some o ≡ false
    → from_base f b (122 - b) ≡ from_base f (b + 1) (122 - (b + 1))
base-none f b o h e k s = rw (from-next f b h, e, ← k) (none-next o _ s)

pub base-pentagon : (f : ℕ → Direction → Option TableError) (b : ℕ) → b < 122 → is_hexagon_base b ≡ false
    → from_base f b (122 - b) ≡ from_base f (b + 1) (122 - (b + 1))
base-pentagon f b h e = rw (from-next f b h, e) refl

pub each-end : (p : Direction → Bool) → list_all p [] ≡ true
each-end p = refl

pub both_false : (a b : Bool) → b ≡ false → a && b ≡ false
both_false true b e = e
both_false false b e = refl
