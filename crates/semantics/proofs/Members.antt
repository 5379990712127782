-- Members of lists: what holds of each element, and images. Assumes nothing.
use Rattle.std.proofs.Common.{◌≡◌, List, [], ◌∷◌, map, sym, refl, ap, subst}
use mathlib.Core.List.Memᴰ
use mathlib.Core.List.{Memᴰ}
use Rattle.std.specs.List.{AllByRecursion}

pub all_member : {X : Type 0} (P : X → Type 0) {x : X} (xs : List X) → AllByRecursion P xs → Memᴰ x xs → P x
all_member P [] h m = absurd (Memᴰ.not-nil m)
all_member P (y ∷ ys) h (Memᴰ.head e) = subst P (sym e) h.0
all_member P (y ∷ ys) h (Memᴰ.tail m) = all_member P ys h.1 m

pub all_from_members : {X : Type 0} (P : X → Type 0) (xs : List X) → ((x : X) → Memᴰ x xs → P x) → AllByRecursion P xs
all_from_members P [] h = tt
all_from_members P (y ∷ ys) h = (h y (Memᴰ.head refl), all_from_members P ys (λ x m. h x (Memᴰ.tail m)))

-- members of a list's images are images of members
pub member_map : {X Y : Type 0} (f : X → Y) {y : Y} (xs : List X) → Memᴰ y (map f xs) → (x : X) × Memᴰ x xs × (y ≡ f x)
member_map f [] m = absurd (Memᴰ.not-nil m)
member_map f (x ∷ xs) (Memᴰ.head e) = (x, Memᴰ.head refl, e)
member_map f (x ∷ xs) (Memᴰ.tail m) = let (z, n, e) = member_map f xs m in (z, Memᴰ.tail n, e)

pub map_member : {X Y : Type 0} (f : X → Y) {x : X} (xs : List X) → Memᴰ x xs → Memᴰ (f x) (map f xs)
map_member f [] m = absurd (Memᴰ.not-nil m)
map_member f (x ∷ xs) (Memᴰ.head e) = Memᴰ.head (ap f e)
map_member f (x ∷ xs) (Memᴰ.tail m) = Memᴰ.tail (map_member f xs m)
