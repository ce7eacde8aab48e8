-- Words of arithmetic and lists that document 01 uses without defining them: an entry, a sum, a list of values, every, some, the smallest.
use Rattle.std.specs.Prelude.{ℕ, zero, suc, ◌+◌, ◌-◌, List, [], ◌∷◌, ◌++◌, Bool, true, false, ◌&&◌, ◌||◌, length, get_or, take, drop}

-- entry i of a list of amounts; 0 past its end
abbrev pub at : List ℕ → ℕ → ℕ
at l i = get_or l i 0

-- the n entries from entry a on
abbrev pub part : List ℕ → ℕ → ℕ → List ℕ
part l a n = take n (drop a l)

-- the list with `new` written over its entries from entry a on
abbrev pub written : List ℕ → ℕ → List ℕ → List ℕ
written l a new = take a l ++ new ++ drop (a + length new) l

-- several lists, one after the other
unfoldable pub joined : List (List ℕ) → List ℕ
joined [] = []
joined (l ∷ ls) = l ++ joined ls

-- f i, f (i + 1), .. as a list of n values
unfoldable pub tab_from : {A : Type 0} → ℕ → ℕ → (ℕ → A) → List A
tab_from i zero f = []
tab_from i (suc n) f = f i ∷ tab_from (suc i) n f

-- f 0, f 1, .., f (n - 1) as a list
abbrev pub tab : {A : Type 0} → ℕ → (ℕ → A) → List A
tab n f = tab_from 0 n f

-- n times 0
abbrev pub zeros : ℕ → List ℕ
zeros n = tab n (λ i. 0)

-- f 0 + f 1 + .. + f (n - 1)
unfoldable pub sum : ℕ → (ℕ → ℕ) → ℕ
sum zero f = 0
sum (suc n) f = sum n f + f n

-- at how many of the numbers below n the test p holds
unfoldable pub how_many : ℕ → (ℕ → Bool) → ℕ
how_many zero p = 0
how_many (suc n) p = elim (p n) [ true ↦ suc (how_many n p) | false ↦ how_many n p ]

-- p holds at every number below n
unfoldable pub every : ℕ → (ℕ → Bool) → Bool
every zero p = true
every (suc n) p = every n p && p n

-- p holds at some number below n
unfoldable pub some : ℕ → (ℕ → Bool) → Bool
some zero p = false
some (suc n) p = some n p || p n

-- the smallest of the numbers 1 to n at which p holds; 0 where it holds at none of them
unfoldable pub smallest : ℕ → (ℕ → Bool) → ℕ
smallest zero p = 0
smallest (suc n) p = elim (smallest n p) [ zero ↦ elim (p (suc n)) [ true ↦ suc n | false ↦ 0 ] | suc m ↦ suc m ]

-- |a - b|; one of the two differences is cut off at 0
abbrev pub distance : ℕ → ℕ → ℕ
distance a b = (a - b) + (b - a)
