-- What a row of four numbers says: its kind, the rows that it names and the place that it names. Assumes nothing.
use Rattle.std.specs.Prelude.{ℕ, ◌+◌, ◌*◌, cond, List, [], ◌∷◌, Some, None, Option, ◌==◌, slice_index}
use Rattle.program.specs.declared.row.Row.{Row}
use Rattle.program.specs.declared.row.Named.{Named}
use Rattle.program.specs.declared.row.Named.TheVariants.{Nothing, One, Two, Three}
use Rattle.program.specs.declared.row.Row.TheVariants.{Constant, Place, Add, Multiply, Less, Store, Sequence, Choice, Loop}

-- where the numbers of row i stand: its kind, and the three after it. Only these four know the layout
abbrev pub kind : List ℕ → ℕ → ℕ
kind xs i = slice_index xs (4 * i)

abbrev pub first : List ℕ → ℕ → ℕ
first xs i = slice_index xs (4 * i + 1)

abbrev pub second : List ℕ → ℕ → ℕ
second xs i = slice_index xs (4 * i + 2)

abbrev pub third : List ℕ → ℕ → ℕ
third xs i = slice_index xs (4 * i + 3)

-- one of nine, by a kind; kinds from 8 up have the last
abbrev pub by_kind : {A : Type 0} → ℕ → A → A → A → A → A → A → A → A → A → A
by_kind k r₀ r₁ r₂ r₃ r₄ r₅ r₆ r₇ r₈ =
    cond (k == 0) r₀ (cond (k == 1) r₁ (cond (k == 2) r₂ (cond (k == 3) r₃ (cond (k == 4) r₄ (cond (k == 5) r₅ (cond (k == 6) r₆ (cond (k == 7) r₇ r₈)))))))

-- a row by its kind and the three numbers behind it, in the order of the kinds
unfoldable pub decoded : (k a b c : ℕ) → Row
decoded k a b c = by_kind k (Constant a) (Place a) (Add a b) (Multiply a b) (Less a b) (Store a b) (Sequence a b) (Choice a b c) (Loop a b c)

-- the row of number i
abbrev pub row_in : List ℕ → ℕ → Row
row_in xs i = decoded (kind xs i) (first xs i) (second xs i) (third xs i)

-- the rows that a row names, in its own order
abbrev pub named : Row → List ℕ
named (Constant value) = []
named (Place place) = []
named (Add left right) = left ∷ right ∷ []
named (Multiply left right) = left ∷ right ∷ []
named (Less left right) = left ∷ right ∷ []
named (Store place value) = value ∷ []
named (Sequence first second) = first ∷ second ∷ []
named (Choice condition then otherwise) = condition ∷ then ∷ otherwise ∷ []
named (Loop limit count body) = count ∷ body ∷ []

-- the place that a row looks at or sets by itself
abbrev pub own_place : Row → Option ℕ
own_place (Constant value) = None
own_place (Place place) = Some place
own_place (Add left right) = None
own_place (Multiply left right) = None
own_place (Less left right) = None
own_place (Store place value) = Some place
own_place (Sequence first second) = None
own_place (Choice condition then otherwise) = None
own_place (Loop limit count body) = None

-- the rows that the code lists as a row's, at most three
abbrev pub named_rows : Named → List ℕ
named_rows Nothing = []
named_rows (One a) = a ∷ []
named_rows (Two a b) = a ∷ b ∷ []
named_rows (Three a b c) = a ∷ b ∷ c ∷ []
