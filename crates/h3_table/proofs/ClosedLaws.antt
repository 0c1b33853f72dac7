-- Links that all lead to pentagon base cells are sound.
use Rattle.std.proofs.Common.{◌≡◌, ◌<◌, ◌*◌, ◌+◌, ◌%◌, ◌∙◌, ℕ, true, false, List, [], ◌∷◌, length, get_or, zero, suc, ◌==◌, if◌then◌else◌, refl, ap, sym, subst, arith, rules}
use Rattle.std.proofs.lemmas.List.Elements.{All-from_get_or}
use Rattle.h3_index.specs.Cell.{is_pentagon_base}
use Rattle.h3_table.specs.Closed.{closed_link}
use Rattle.h3_table.specs.Links.{AreLinks, IsLink, IsSound, Links, links_in, no_link, pair_of}
use Rattle.h3_table.specs.declared.links.Link.{Link}
use Rattle.h3_directions.specs.declared.direction.Direction.{Direction}
use Rattle.h3_directions.specs.declared.direction.Direction.TheVariants.{K, J, JK, I, IK, IJ}

abbrev pub to_at : ℕ → ℕ
to_at r = get_or (4 ∷ 14 ∷ 24 ∷ 38 ∷ 49 ∷ 58 ∷ []) r 0

slot_rest : (b n : ℕ) → n < 6 → (b * 6 + n) % 6 ≡ n
slot_rest b n h = omega (arith, h)

closed_one : (links : List Link) → length links ≡ 732
    → ((k : ℕ) → k < 732 → pair_of (get_or links k no_link) ≡ (to_at (k % 6), 0))
    → (b n : ℕ) → b < 122 → n < 6 → pair_of (get_or links (b * 6 + n) no_link) ≡ (to_at n, 0)
closed_one links long at b n h small =
    at (b * 6 + n) (omega (arith, h, small)) ∙ ap (λ r. (to_at r, 0)) (slot_rest b n small)

pub closed_at : (links : List Link) → length links ≡ 732
    → ((k : ℕ) → k < 732 → pair_of (get_or links k no_link) ≡ (to_at (k % 6), 0))
    → (b : ℕ) (d : Direction) → b < 122 → links_in links b d ≡ closed_link d
unfolding links_in
closed_at links long at b K h = closed_one links long at b 0 h (omega arith)
closed_at links long at b J h = closed_one links long at b 1 h (omega arith)
closed_at links long at b JK h = closed_one links long at b 2 h (omega arith)
closed_at links long at b I h = closed_one links long at b 3 h (omega arith)
closed_at links long at b IK h = closed_one links long at b 4 h (omega arith)
closed_at links long at b IJ h = closed_one links long at b 5 h (omega arith)

to_at-small : (r : ℕ) → to_at r < 122
to_at-small zero = omega arith
to_at-small (suc zero) = omega arith
to_at-small (suc (suc zero)) = omega arith
to_at-small (suc (suc (suc zero))) = omega arith
to_at-small (suc (suc (suc (suc zero)))) = omega arith
to_at-small (suc (suc (suc (suc (suc zero))))) = omega arith
to_at-small (suc (suc (suc (suc (suc (suc n)))))) = omega arith

pub all_links : (links : List Link) → length links ≡ 732
    → ((k : ℕ) → k < 732 → pair_of (get_or links k no_link) ≡ (to_at (k % 6), 0))
    → AreLinks links
all_links links long at = All-from_get_or (λ l. IsLink (pair_of l)) links no_link
    (λ i h. (
    let is : pair_of (get_or links i no_link) ≡ (to_at (i % 6), 0) = at i (omega (arith, h, long)) in
    subst (λ p. IsLink p) (sym is) (to_at-small (i % 6), omega arith)))

leads_to_pentagon : (d : Direction) → is_pentagon_base (closed_link d).0 ≡ true
leads_to_pentagon K = refl
leads_to_pentagon J = refl
leads_to_pentagon JK = refl
leads_to_pentagon I = refl
leads_to_pentagon IK = refl
leads_to_pentagon IJ = refl

is_link : (d : Direction) → IsLink (closed_link d)
is_link K = (omega arith, omega arith)
is_link J = (omega arith, omega arith)
is_link JK = (omega arith, omega arith)
is_link I = (omega arith, omega arith)
is_link IK = (omega arith, omega arith)
is_link IJ = (omega arith, omega arith)

-- the direction that leads to a base cell
toward : ℕ → Direction
toward n =
    if n == 4 then K
    else (if n == 14 then J else (if n == 24 then JK else (if n == 38 then I else (if n == 49 then IK else IJ))))

toward-closed : (d : Direction) → toward (closed_link d).0 ≡ d
unfolding toward
toward-closed K = refl
toward-closed J = refl
toward-closed JK = refl
toward-closed I = refl
toward-closed IK = refl
toward-closed IJ = refl

no_hexagon : (b : ℕ) (d : Direction) → b ≡ (closed_link d).0 → is_pentagon_base b ≡ false → ⊥
no_hexagon b d is hexagon =
    let both : true ≡ false = sym (leads_to_pentagon d) ∙ ap is_pentagon_base (sym is) ∙ hexagon in search (rules, both)

pub closed_links_are_sound : (link : Links) → ((b : ℕ) (d : Direction) → b < 122 → link b d ≡ closed_link d)
    → IsSound link
closed_links_are_sound link is = record {
  within = λ b d h. rw (is b d h.0) (is_link d);
  apart = λ b d e h same.
      sym (toward-closed d) ∙ ap toward (sym (ap (λ l. l.0) (is b d h.0)) ∙ same ∙ ap (λ l. l.0) (is b e h.0))
      ∙ toward-closed e;
  away = λ b d h same. no_hexagon b d (sym same ∙ ap (λ l. l.0) (is b d h.0)) h.1;
  reversal = λ b d h g. absurd (no_hexagon (link b d).0 d (ap (λ l. l.0) (is b d h.0)) g.1);
  corner = λ b d h g k. absurd (no_hexagon (link b d).0 d (ap (λ l. l.0) (is b d h.0)) g.1);
}
