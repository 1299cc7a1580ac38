-- What chains keep of the lines.
use Rattle.std.proofs.Common.{◌≡◌, ℕ, Bool, true, false, cond, eqb, List, [], ◌∷◌, ◌++◌, Some, None, Option, sym, refl, ap, ◌∙◌}
use Rattle.std.specs.List.{All, flat_map, filter_map, cons_option}
use Rattle.std.specs.Option.{option_to_list}
use Rattle.std.proofs.lemmas.List.Elements.{All-head, All-tail, All-weaker}
use Rattle.std.proofs.lemmas.Bool.{eqb-true}
use Rattle.topology.specs.declared.lines.Line.{Line}
use Rattle.topology.specs.declared.lines.Line.TheVariants.{Most, Lamp, Wire, Unknown}
use Rattle.topology.specs.Files.{name_of, names_in, ends_of, ends_at}
use Rattle.topology.specs.Checks.{RightEnds}

kept_first : {Y : Type 0} (o : Option Y) (ys : List Y) → cons_option o ys ≡ option_to_list o ++ ys
kept_first None ys = refl
kept_first (Some y) ys = refl

-- where f gives one or none of each element
kept_is :
    {X Y : Type 0} (h : X → Option Y) (f : X → List Y) (xs : List X) → All (λ x. option_to_list (h x) ≡ f x) xs → filter_map h xs ≡ flat_map f xs
kept_is h f [] all = refl
kept_is h f (x ∷ xs) all =
    kept_first (h x) (filter_map h xs)
    ∙ ap (λ ys. ys ++ filter_map h xs) (All-head (λ x. option_to_list (h x) ≡ f x) x xs all)
    ∙ ap (λ ys. f x ++ ys) (kept_is h f xs (All-tail (λ x. option_to_list (h x) ≡ f x) x xs all))

abbrev pub name_if : Line → Option ℕ
name_if (Most m) = None
name_if (Lamp n) = Some n
name_if (Wire a b) = None
name_if Unknown = None

name_is : (line : Line) → option_to_list (name_if line) ≡ name_of line
name_is (Most m) = refl
name_is (Lamp n) = refl
name_is (Wire a b) = refl
name_is Unknown = refl

pub names_kept : (lines : List Line) → filter_map name_if lines ≡ names_in lines
names_kept lines = kept_is name_if name_of lines (λ k d l. name_is _)

abbrev pub end_if : ℕ → Line → Option ℕ
end_if place (Most m) = None
end_if place (Lamp n) = None
end_if place (Wire a b) = cond (eqb a place) (Some b) (cond (eqb b place) (Some a) None)
end_if place Unknown = None

-- a wire with two ends has at most one at a place
end_is : (count place : ℕ) (line : Line) → RightEnds count line → option_to_list (end_if place line) ≡ ends_of place line
end_is count place (Most m) r = refl
end_is count place (Lamp n) r = refl
end_is count place (Wire a b) r =
    let at : (s t : Bool) → eqb a place ≡ s → eqb b place ≡ t →
    option_to_list (cond s (Some b) (cond t (Some a) None)) ≡ cond s (b ∷ []) [] ++ cond t (a ∷ []) [] =
    elim [
      | true ↦ elim [ true ↦ λ p q. absurd (r.2 (eqb-true a place p ∙ sym (eqb-true b place q))) | false ↦ λ p q. refl ]
      | false ↦ elim [ true ↦ λ p q. refl | false ↦ λ p q. refl ]
    ] in
    at (eqb a place) (eqb b place) refl refl
end_is count place Unknown r = refl

pub ends_kept : (count place : ℕ) (lines : List Line) → All (RightEnds count) lines → filter_map (end_if place) lines ≡ ends_at place lines
ends_kept count place lines right =
    kept_is (end_if place) (ends_of place) lines
    (All-weaker (RightEnds count) (λ line. option_to_list (end_if place line) ≡ ends_of place line) (end_is count place) lines right)
