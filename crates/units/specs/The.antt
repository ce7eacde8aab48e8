-- The value of a type, where the type says which is meant: `the tie.Start (search)` is the entry of the function, among what a need is handed.
abbrev pub the : (A : Type 0) → A → A
the A x = x
