-- The rows of all tracers as they stand in the lent amounts, loaded and written back.
use Rattle.std.specs.Prelude.{ℕ, suc, ◌+◌, ◌*◌, ◌-◌, ◌≤◌, ◌<◌, List, [], ◌++◌, ◌≡◌, length, get_or, set, drop, replicate}
use Rattle.std.proofs.Common.{refl, length-set, append_assoc, append-nil, sym, ap, ◌∙◌, mul-le-mul, mul-le-mul_right, arith, length-append, length-drop, take-append-drop, drop_of_length-le, drop-drop}
use Rattle.std.proofs.Math.Nat.{zero-mul}
use Rattle.std.proofs.lemmas.List.{get_or-replicate}
use borrow.Rule.Slice.PartMut.{put_mid}
use Rattle.model.specs.Limits.{most_cells, most_tracers, most_amounts}
use Rattle.model.specs.Basic.{part, written, joined, tab_from, tab}
use Rattle.model.proofs.Laws.Basic.{length_part, length_tab, get_d_tab, length_written, length_joined}
use Rattle.model.proofs.Laws.Entries.{entries_more, joined_more, written_middle}
use Rattle.units.specs.Lent.{part_lent, put_back, front_back, length_front}
use Rattle.rows.specs.Gas.{row_of, Wide, wide_set, length_row}

-- n tracers of `cells` cells each, and a row of w of them from cell `first` on
pub record RowsFit (tracers : List ℕ) (first cells w n : ℕ) : Type 0 where
  pub few_columns : w ≤ 72
  pub row_inside : first + w ≤ cells
  pub few_cells : cells ≤ most_cells
  pub few_tracers : n ≤ 8
  pub long : length tracers ≡ n * cells

-- rows has the row of each of the first n tracers
pub record AreRows (tracers : List ℕ) (first cells w n : ℕ) (rows : List (List ℕ)) : Type 0 where
  pub wide_rows : Wide n rows
  pub each : (t : ℕ) → t < n → row_of w rows t ≡ part tracers (t * cells + first) w

-- the amounts with every tracer's row written
abbrev pub stored_rows : List ℕ → ℕ → ℕ → ℕ → ℕ → List (List ℕ) → List ℕ
stored_rows tracers first cells w n rows =
    joined (tab n (λ t. written (part tracers (t * cells) cells) first (row_of w rows t)))

pub record StoreNeed (tracers : List ℕ) (first cells w n : ℕ) (rows : List (List ℕ)) : Type 0 where
  pub fit : RowsFit tracers first cells w n
  pub wide_rows : Wide n rows

-- where tracer t's row lies
pub row_room :
    {tracers : List ℕ} {first cells w n : ℕ} → RowsFit tracers first cells w n → (t : ℕ) → t < n →
    (t * cells + first + w ≤ length tracers) × (t * cells + first + w ≤ most_amounts)
row_room {tracers} {first} {cells} {w} {n} fit t h =
    let below : suc t * cells ≤ n * cells = mul-le-mul_right cells h in
    let most : n * cells ≤ most_tracers * most_cells = mul-le-mul fit.few_tracers fit.few_cells in
    let long : length tracers ≡ n * cells = fit.long in
    let inside : first + w ≤ cells = fit.row_inside in
    (omega arith, omega arith)

-- ---- loaded, as a loop over the tracers meets them: none yet, and one more
-- the rows of the first t tracers are loaded, and each row has room
pub record Loading (tracers : List ℕ) (first cells w t : ℕ) (rows : List (List ℕ)) : Type 0 where
  pub some : length rows ≡ 8
  pub room : Wide 8 rows
  pub loaded : AreRows tracers first cells w t rows

abbrev empty_row : List ℕ
empty_row = replicate 72 0

pub loading_none : {tracers : List ℕ} {first cells w : ℕ} → Loading tracers first cells w 0 (replicate 8 empty_row)
loading_none =
    record {
      some = refl;
      room = λ t h. ap length (get_or-replicate 8 t empty_row [] h);
      loaded = record { wide_rows = λ t h. absurd (omega arith); each = λ t h. absurd (omega arith) };
    }

-- what is lent of tracer t's amounts
abbrev lent : List ℕ → ℕ → ℕ → ℕ → ℕ → List ℕ
lent tracers first cells w t = part tracers (t * cells + first) (t * cells + first + w - (t * cells + first))

pub length_lent : (tracers : List ℕ) (first cells w t : ℕ) → t * cells + first + w ≤ length tracers → length (lent tracers first cells w t) ≡ w
length_lent tracers first cells w t fits =
    ap length (part_lent tracers (t * cells + first) w) ∙ length_part tracers (t * cells + first) w fits

module _ {tracers : List ℕ} {first cells w n t : ℕ} (fit : RowsFit tracers first cells w n) (h : t < n)
    {rows : List (List ℕ)} (loading : Loading tracers first cells w t rows) where
  pub loading_more : {new : List ℕ} → new ≡ lent tracers first cells w t → Loading tracers first cells w (t + 1) (set rows t (put_mid 0 (w - 0) (get_or rows t []) new))
  loading_more {new} is =
      let old : List ℕ = get_or rows t [] in
      let row : List ℕ = put_mid 0 (w - 0) old new in
      let few : t < 8 = omega (arith, fit.few_tracers) in
      let room : t < length rows = omega (arith, loading.some) in
      let long : length new ≡ w = ap length is ∙ length_lent tracers first cells w t (row_room fit t h).0 in
      let size : length old ≡ 72 = loading.room t few in
      let wide : length row ≡ 72 = length_front old new w long (omega (arith, fit.few_columns)) ∙ size in
      record {
        some = length-set rows t row ∙ loading.some;
        room = wide_set 8 rows t row room wide loading.room;
        loaded =
            record {
              wide_rows = entries_more [] rows t row (λ k r. length r ≡ 72) room loading.loaded.wide_rows wide;
              each =
                  entries_more [] rows t row (λ k r. part r 0 w ≡ part tracers (k * cells + first) w) room loading.loaded.each
                  (front_back old new w long ∙ is ∙ part_lent tracers (t * cells + first) w);
            };
      }

-- ---- written back
-- the amounts with the rows of the first t tracers written
abbrev pub stored_up_to : List ℕ → ℕ → ℕ → ℕ → ℕ → List (List ℕ) → List ℕ
stored_up_to tracers first cells w t rows = stored_rows tracers first cells w t rows ++ drop (t * cells) tracers

module _ {tracers : List ℕ} {first cells w n : ℕ} {rows : List (List ℕ)} (need : StoreNeed tracers first cells w n rows) where
  -- tracer t's amounts, and with its row written
  abbrev gas_of : ℕ → List ℕ
  gas_of t = part tracers (t * cells) cells

  abbrev stored : ℕ → List ℕ
  stored t = written (gas_of t) first (row_of w rows t)

  length_gas_of : (t : ℕ) → t < n → length (gas_of t) ≡ cells
  length_gas_of t h =
      let below : suc t * cells ≤ n * cells = mul-le-mul_right cells h in
      length_part tracers (t * cells) cells (omega (arith, need.fit.long))

  -- each tracer's row has room for the columns
  pub row_wide : {t : ℕ} → t < n → w ≤ length (get_or rows t [])
  row_wide {t} h = omega (arith, need.wide_rows t h, need.fit.few_columns)

  length_row_of : (t : ℕ) → t < n → length (row_of w rows t) ≡ w
  length_row_of t h = length_row n rows need.wide_rows w t h need.fit.few_columns

  length_stored : (t : ℕ) → t < n → length (stored t) ≡ cells
  length_stored t h =
      length_written (gas_of t) (row_of w rows t) first w cells (length_gas_of t h) (length_row_of t h) need.fit.row_inside

  length_stored_rows : (t : ℕ) → t ≤ n → length (stored_rows tracers first cells w t rows) ≡ t * cells
  length_stored_rows t h = length_joined cells (tab t stored) each ∙ ap (λ (m : ℕ). m * cells) (length_tab t stored)
    where
      each : (k : ℕ) → k < length (tab t stored) → length (get_or (tab t stored) k []) ≡ cells
      each k p =
          let q : k < t = rw (length_tab t stored) at p in
          rw (get_d_tab t stored k [] q) (length_stored k (omega arith))

  -- what is written of the first t tracers
  abbrev done : ℕ → List ℕ
  done t = stored_rows tracers first cells w t rows

  past : (t : ℕ) → drop cells (drop (t * cells) tracers) ≡ drop ((t + 1) * cells) tracers
  past t =
      let k : t * cells + cells ≡ (t + 1) * cells = omega arith in
      drop-drop cells (t * cells) tracers ∙ ap (λ (i : ℕ). drop i tracers) k

  -- none written yet
  pub stored_none : tracers ≡ stored_up_to tracers first cells w 0 rows
  unfolding joined tab_from
  stored_none = rw zero-mul

  -- one more: what is lent of tracer t's row was copied
  pub stored_more :
      (t : ℕ) → t < n → {now new : List ℕ} →
      now ≡ stored_up_to tracers first cells w t rows → new ≡ row_of w rows t →
      put_mid (t * cells + first) (t * cells + first + w - (t * cells + first)) now new ≡ stored_up_to tracers first cells w (t + 1) rows
  stored_more t h {now} {new} e copied =
      let base = length_stored_rows t (omega arith) in
      let rest : drop (t * cells) tracers ≡ gas_of t ++ drop ((t + 1) * cells) tracers =
      sym (take-append-drop cells (drop (t * cells) tracers)) ∙ ap (λ (l : List ℕ). gas_of t ++ l) (past t) in
      let long : length new ≡ w = ap length copied ∙ length_row_of t h in
      put_back now new (t * cells + first) w long ∙
      ap (λ (l : List ℕ). written l (t * cells + first) new) (e ∙ ap (λ (l : List ℕ). done t ++ l) rest) ∙
      ap (λ (k : ℕ). written (done t ++ (gas_of t ++ drop ((t + 1) * cells) tracers)) (k + first) new) (sym base) ∙
      written_middle (done t) (gas_of t) (drop ((t + 1) * cells) tracers) new first (omega (arith, length_gas_of t h, need.fit.row_inside)) ∙
      ap (λ (r : List ℕ). done t ++ (written (gas_of t) first r ++ drop ((t + 1) * cells) tracers)) copied ∙
      sym (append_assoc (done t) (stored t) (drop ((t + 1) * cells) tracers)) ∙
      ap (λ (l : List ℕ). l ++ drop ((t + 1) * cells) tracers) (sym (joined_more t stored))

  -- all
  pub stored_all : {now : List ℕ} → now ≡ stored_up_to tracers first cells w n rows → now ≡ done n
  stored_all e =
      let none : drop (n * cells) tracers ≡ [] = drop_of_length-le tracers {i = n * cells} (omega (arith, need.fit.long)) in
      e ∙ ap (λ (l : List ℕ). done n ++ l) none ∙ append-nil _

  pub length_stored_up_to : (t : ℕ) → t ≤ n → length (stored_up_to tracers first cells w t rows) ≡ length tracers
  length_stored_up_to t h =
      let below : t * cells ≤ n * cells = mul-le-mul_right cells h in
      simp (length-append, length-drop) (omega (arith, length_stored_rows t h, need.fit.long))
