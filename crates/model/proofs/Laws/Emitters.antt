-- Laws of a tracer's block of the ledger: what holds of it in every world that calls reach, and what adding and removing an emitter, setting the limiter and an entry in the book do to it.
-- Assumes a block of 59 numbers, as place 2 has it.
use Rattle.std.specs.Prelude.{ℕ, zero, suc, ◌+◌, ◌*◌, ◌-◌, ◌/◌, ◌%◌, ◌≤◌, ◌<◌, List, Bool, true, false, not, ◌&&◌, ◌||◌, ◌≡◌, ◌≢◌, ◌⊎◌, leb, ltb, eqb, length, set}
use Rattle.std.proofs.Math.Bool.{or-false}
use Rattle.std.proofs.lemmas.Bool.{false≢true, eqb-false}
use Rattle.std.proofs.Common.{true≢false, sym, ◌∙◌, ap₂, inl, inr, add-zero, add_assoc, div-add-mod', arith, leb-true, ltb-true, eqb-true, le-leb, lt-ltb, eq-eqb, ne_eqb, length-set, ext_get_or, set-set, get_or-set_same, get_or-set_other}
use Rattle.std.proofs.Math.Path.{refl, ap}
use Rattle.std.proofs.Math.Decide.{ℕ_discrete}
use Rattle.std.proofs.Math.Numerals.{add-one}
use Rattle.std.proofs.lemmas.List.{set-get_or, set_comm}
use Rattle.model.specs.Limits.{most_emitters, emitter_numbers, numbers_before_book, block_numbers}
use Rattle.model.specs.Basic.{at, zeros, tab_from, sum, every, some}
use Rattle.model.specs.Emitters.{standing, emitter_id, emitter_cell, emitter_units, half, kept_units, present_units, has_id, record_fits, with_head, with_emitter, emitter_added, place_of, emitter_removed, ticked}
use Rattle.model.specs.Limiters.{Limiter, limiter_fits, limiter_in, with_limiter, first_limiter}
use Rattle.model.specs.Books.{loaded_sum, emitted_sum, withdrawn_sum, entered, fresh_block}
use Rattle.model.proofs.Laws.Basic.{length_zeros, at_zeros, sum_ext, sum_more, sum_set, sum_changed, both, every_at, every_true, some_true, le_or_lt}
use Rattle.model.proofs.Laws.Limiters.{limiter_rest, limiter_behind, length_limiter, limiter_read}

-- a block that calls left: it passes its test, its sum is in halves below 2^32, 0 stands over the free places of its emitters, and its limiter is one of the three
pub record Sound (cells : ℕ) (b : List ℕ) : Type 0 where
  pub many : length b ≡ block_numbers
  pub few : standing b ≤ most_emitters
  pub there : (i : ℕ) → i < standing b → emitter_cell b i < cells
  pub apart : (i j : ℕ) → i < standing b → j < standing b → i ≢ j → emitter_id b i ≢ emitter_id b j
  pub low : at b 1 ≡ present_units b % half
  pub high : at b 2 ≡ present_units b / half
  pub free : (k : ℕ) → 3 + 3 * standing b ≤ k → k < emitter_numbers → at b k ≡ 0
  pub limiter : limiter_fits (limiter_in b) ≡ true

-- the same limiter, where the numbers between the emitters' and the book's are the same
same_limiter : (b c : List ℕ) → ((k : ℕ) → emitter_numbers ≤ k → k < numbers_before_book → at b k ≡ at c k) → limiter_in b ≡ limiter_in c
same_limiter b c same =
    λ i.
    record {
      number = same 51 (omega arith) (omega arith) i;
      lo = same 52 (omega arith) (omega arith) i + half * same 53 (omega arith) (omega arith) i;
      hi = same 54 (omega arith) (omega arith) i + half * same 55 (omega arith) (omega arith) i;
    }

-- ---- a block as a load leaves it: none stands
module _ (total : ℕ) where
  abbrev unbooked : List ℕ
  unbooked = with_limiter (zeros block_numbers) first_limiter

  length_fresh : length (fresh_block total) ≡ block_numbers
  length_fresh = length-set unbooked 56 total ∙ length_limiter (zeros block_numbers) first_limiter (length_zeros block_numbers)

  fresh_unbooked : (k : ℕ) → k ≢ 56 → at (fresh_block total) k ≡ at unbooked k
  fresh_unbooked k h = get_or-set_other unbooked 56 k total 0 h

  fresh_at : (k : ℕ) → k < emitter_numbers → at (fresh_block total) k ≡ 0
  fresh_at k h = fresh_unbooked k (omega arith) ∙ limiter_rest (zeros block_numbers) first_limiter k h ∙ at_zeros block_numbers k

  pub none_present : present_units (fresh_block total) ≡ 0
  unfolding sum tab_from
  none_present = refl

  pub none_room : standing (fresh_block total) < most_emitters
  none_room = rw (fresh_at 0 (omega arith)) (omega arith)

  pub none_has : (id : ℕ) → has_id (fresh_block total) id ≡ false
  unfolding tab_from some
  none_has id = refl

  pub fresh_limiter : limiter_in (fresh_block total) ≡ first_limiter
  fresh_limiter =
      same_limiter (fresh_block total) unbooked (λ k h few. fresh_unbooked k (omega arith)) ∙
      limiter_read (zeros block_numbers) first_limiter (length_zeros block_numbers)

  -- its book: the units that were loaded, and nothing emitted or withdrawn yet
  pub fresh_loaded : loaded_sum (fresh_block total) ≡ total
  fresh_loaded =
      get_or-set_same unbooked 56 total 0 (omega (arith, length_limiter (zeros block_numbers) first_limiter (length_zeros block_numbers)))

  fresh_behind : (k : ℕ) → 56 < k → at (fresh_block total) k ≡ 0
  fresh_behind k h = fresh_unbooked k (omega arith) ∙ limiter_behind (zeros block_numbers) first_limiter k (omega arith) ∙ at_zeros block_numbers k

  pub fresh_emitted : emitted_sum (fresh_block total) ≡ 0
  fresh_emitted = fresh_behind 57 (omega arith)

  pub fresh_withdrawn : withdrawn_sum (fresh_block total) ≡ 0
  fresh_withdrawn = fresh_behind 58 (omega arith)

  pub none_sound : (cells : ℕ) → Sound cells (fresh_block total)
  none_sound cells =
      let stand : standing (fresh_block total) ≡ 0 = fresh_at 0 (omega arith) in
      record {
        many = length_fresh;
        few = rw stand (omega arith);
        there = λ i h. absurd (omega arith);
        apart = λ i j h. absurd (omega arith);
        low = fresh_at 1 (omega arith) ∙ rw none_present;
        high = fresh_at 2 (omega arith) ∙ rw none_present;
        free = λ k h few. fresh_at k few;
        limiter = ap limiter_fits fresh_limiter;
      }

-- ---- another block with the same emitters, and one of the three limiters
pub same_sound :
    {cells : ℕ} {b : List ℕ} → Sound cells b → (c : List ℕ) → length c ≡ block_numbers →
    ((k : ℕ) → k < emitter_numbers → at c k ≡ at b k) → limiter_fits (limiter_in c) ≡ true → Sound cells c
same_sound {cells} {b} sound c many same fits =
    record {
      many = many;
      few = rw same_standing sound.few;
      there = λ i h. rw (same (4 + 3 * i) (omega (arith, in_block i (rw same_standing at h)))) (sound.there i (rw same_standing at h));
      apart =
          λ i j h h' ne e.
          sound.apart i j (rw same_standing at h) (rw same_standing at h') ne
          (sym (same (3 + 3 * i) (omega (arith, in_block i (rw same_standing at h)))) ∙ e ∙ same (3 + 3 * j) (omega (arith, in_block j (rw same_standing at h'))));
      low = same 1 (omega arith) ∙ sound.low ∙ ap (λ (x : ℕ). x % half) (sym same_present);
      high = same 2 (omega arith) ∙ sound.high ∙ ap (λ (x : ℕ). x / half) (sym same_present);
      free = λ k h few. same k few ∙ sound.free k (rw same_standing at h) few;
      limiter = fits;
    }
  where
    same_standing : standing c ≡ standing b
    same_standing = same 0 (omega arith)

    in_block : (i : ℕ) → i < standing b → 5 + 3 * i < emitter_numbers
    in_block i h = omega (arith, sound.few)

    same_present : present_units c ≡ present_units b
    same_present =
        ap (λ (n : ℕ). sum n (emitter_units c)) same_standing ∙
        sum_ext (standing b) _ _ (λ i h. same (5 + 3 * i) (in_block i h))

-- another limiter
pub limiter_sound : {cells : ℕ} {b : List ℕ} → Sound cells b → (l : Limiter) → limiter_fits l ≡ true → Sound cells (with_limiter b l)
limiter_sound {cells} {b} sound l fits =
    same_sound sound (with_limiter b l) (length_limiter b l sound.many) (limiter_rest b l) (ap limiter_fits (limiter_read b l sound.many) ∙ fits)

-- ---- an entry in the book
module _ (b : List ℕ) (x y : ℕ) where
  pub length_entered : length (entered b x y) ≡ length b
  length_entered = simp length-set

  pub entered_rest : (k : ℕ) → k ≢ 57 → k ≢ 58 → at (entered b x y) k ≡ at b k
  entered_rest k p q =
      get_or-set_other (set b 57 (emitted_sum b + x)) 58 k (withdrawn_sum b + y) 0 q ∙ get_or-set_other b 57 k (emitted_sum b + x) 0 p

  pub entered_limiter : limiter_in (entered b x y) ≡ limiter_in b
  entered_limiter = same_limiter (entered b x y) b (λ k h few. entered_rest k (omega arith) (omega arith))

  module _ (many : length b ≡ block_numbers) where
    pub entered_emitted : emitted_sum (entered b x y) ≡ emitted_sum b + x
    entered_emitted =
        get_or-set_other (set b 57 (emitted_sum b + x)) 58 57 (withdrawn_sum b + y) 0 (omega arith) ∙
        get_or-set_same b 57 (emitted_sum b + x) 0 (omega arith)

    pub entered_withdrawn : withdrawn_sum (entered b x y) ≡ withdrawn_sum b + y
    entered_withdrawn =
        get_or-set_same (set b 57 (emitted_sum b + x)) 58 (withdrawn_sum b + y) 0 (omega (arith, length-set b 57 (emitted_sum b + x)))

-- .. and numbers before the book that are written
module _ (b : List ℕ) (x y : ℕ) where
  entered_set : (i v : ℕ) → i < 57 → entered (set b i v) x y ≡ set (entered b x y) i v
  entered_set i v h =
      ap₂ (λ (p q : ℕ). set (set (set b i v) 57 (p + x)) 58 (q + y)) (get_or-set_other b i 57 v 0 (omega arith)) (get_or-set_other b i 58 v 0 (omega arith)) ∙
      ap (λ (l : List ℕ). set l 58 (withdrawn_sum b + y)) (set_comm b i 57 v (emitted_sum b + x) (omega arith)) ∙
      set_comm (set b 57 (emitted_sum b + x)) i 58 v (withdrawn_sum b + y) (omega arith)

pub entered_nothing : (b : List ℕ) → entered b 0 0 ≡ b
entered_nothing b =
    ap₂ (λ (p q : ℕ). set (set b 57 p) 58 q) (add-zero (emitted_sum b)) (add-zero (withdrawn_sum b)) ∙
    ap (λ (l : List ℕ). set l 58 (withdrawn_sum b)) (set-get_or b 57 0) ∙ set-get_or b 58 0

-- .. one entry after the other
pub entered_twice : (b : List ℕ) → length b ≡ block_numbers → (x y x' y' : ℕ) → entered (entered b x y) x' y' ≡ entered b (x + x') (y + y')
entered_twice b many x y x' y' =
    ap₂ (λ (p q : ℕ). set (set (set (set b 57 e) 58 w) 57 (p + x')) 58 (q + y')) (entered_emitted b x y many) (entered_withdrawn b x y many) ∙
    ap (λ (l : List ℕ). set l 58 (w + y')) (set_comm (set b 57 e) 58 57 w (e + x') (omega arith) ∙ ap (λ (l : List ℕ). set l 58 w) (set-set b 57 e (e + x'))) ∙
    set-set (set b 57 (e + x')) 58 w (w + y') ∙
    ap₂ (λ (p q : ℕ). set (set b 57 p) 58 q) (add_assoc (emitted_sum b) x x') (add_assoc (withdrawn_sum b) y y')
  where
    e : ℕ
    e = emitted_sum b + x

    w : ℕ
    w = withdrawn_sum b + y

pub entered_sound : {cells : ℕ} {b : List ℕ} → Sound cells b → (x y : ℕ) → Sound cells (entered b x y)
entered_sound {cells} {b} sound x y =
    same_sound sound (entered b x y) (length_entered b x y ∙ sound.many) (λ k h. entered_rest b x y k (omega arith) (omega arith))
    (ap limiter_fits (entered_limiter b x y) ∙ sound.limiter)

-- ---- the test of a record
pub kept_is : {cells : ℕ} {b : List ℕ} → Sound cells b → kept_units b ≡ present_units b
kept_is {cells} {b} sound = rw (sound.low, sound.high) (omega (arith, div-add-mod' (present_units b) half))

-- what a record that passed its test tells
pub record Fitting (cells : ℕ) (b : List ℕ) : Type 0 where
  pub few : standing b ≤ most_emitters
  pub there : (i : ℕ) → i < standing b → emitter_cell b i < cells
  pub sum : kept_units b ≡ present_units b

pub record_fitting : (cells : ℕ) (b : List ℕ) → record_fits cells b ≡ true → Fitting cells b
unfolding record_fits
record_fitting cells b e =
    let few : Bool = leb (standing b) most_emitters in
    let there : Bool = every (standing b) (λ i. ltb (emitter_cell b i) cells) in
    let apart : Bool = every (standing b) (λ i. every i (λ j. not (eqb (emitter_id b j) (emitter_id b i)))) in
    let p = both (few && there && apart) (eqb (kept_units b) (present_units b)) e in
    let q = both few there (both (few && there) apart p.0).0 in
    record {
      few = leb-true _ _ q.0;
      there = λ i h. ltb-true _ _ (every_at (standing b) _ q.1 i h);
      sum = eqb-true _ _ p.1;
    }

pub sound_fits : {cells : ℕ} {b : List ℕ} → Sound cells b → record_fits cells b ≡ true
unfolding record_fits
sound_fits {cells} {b} sound =
    rw (
      le-leb (standing b) most_emitters sound.few,
      every_true (standing b) (λ i. ltb (emitter_cell b i) cells) (λ i h. lt-ltb _ _ (sound.there i h)),
      every_true (standing b) (λ i. every i (λ j. not (eqb (emitter_id b j) (emitter_id b i))))
          (λ i h. every_true i _ (λ j k. ap not (ne_eqb _ _ (sound.apart j i (omega arith) h (omega arith))))),
      eq-eqb (kept_units b) (present_units b) (kept_is sound),
    )

-- ---- the numbers of a block that was written in
module _ (b : List ℕ) (many : length b ≡ block_numbers) where
  module _ (n units : ℕ) where
    length_head : length (with_head b n units) ≡ block_numbers
    length_head = simp length-set many

    head_standing : standing (with_head b n units) ≡ n
    head_standing =
        get_or-set_other (set (set b 0 n) 1 (units % half)) 2 0 (units / half) 0 (omega arith) ∙
        get_or-set_other (set b 0 n) 1 0 (units % half) 0 (omega arith) ∙
        get_or-set_same b 0 n 0 (omega arith)

    head_low : at (with_head b n units) 1 ≡ units % half
    head_low =
        get_or-set_other (set (set b 0 n) 1 (units % half)) 2 1 (units / half) 0 (omega arith) ∙
        get_or-set_same (set b 0 n) 1 (units % half) 0 (omega (arith, length-set b 0 n))

    head_high : at (with_head b n units) 2 ≡ units / half
    head_high =
        get_or-set_same (set (set b 0 n) 1 (units % half)) 2 (units / half) 0
        (omega (arith, length-set b 0 n, length-set (set b 0 n) 1 (units % half)))

    head_rest : (k : ℕ) → 3 ≤ k → at (with_head b n units) k ≡ at b k
    head_rest k h =
        get_or-set_other (set (set b 0 n) 1 (units % half)) 2 k (units / half) 0 (omega arith) ∙
        get_or-set_other (set b 0 n) 1 k (units % half) 0 (omega arith) ∙
        get_or-set_other b 0 k n 0 (omega arith)

  module _ (i id c units : ℕ) where
    length_emitter : length (with_emitter b i id c units) ≡ block_numbers
    length_emitter = simp length-set many

    emitter_rest : (k : ℕ) → k ≢ 3 + 3 * i → k ≢ 4 + 3 * i → k ≢ 5 + 3 * i → at (with_emitter b i id c units) k ≡ at b k
    emitter_rest k p q r =
        get_or-set_other (set (set b (3 + 3 * i) id) (4 + 3 * i) c) (5 + 3 * i) k units 0 r ∙
        get_or-set_other (set b (3 + 3 * i) id) (4 + 3 * i) k c 0 q ∙
        get_or-set_other b (3 + 3 * i) k id 0 p

    module _ (room : i < most_emitters) where
      emitter_id_lem : emitter_id (with_emitter b i id c units) i ≡ id
      emitter_id_lem =
          get_or-set_other (set (set b (3 + 3 * i) id) (4 + 3 * i) c) (5 + 3 * i) (3 + 3 * i) units 0 (omega arith) ∙
          get_or-set_other (set b (3 + 3 * i) id) (4 + 3 * i) (3 + 3 * i) c 0 (omega arith) ∙
          get_or-set_same b (3 + 3 * i) id 0 (omega arith)

      emitter_cell_lem : emitter_cell (with_emitter b i id c units) i ≡ c
      emitter_cell_lem =
          get_or-set_other (set (set b (3 + 3 * i) id) (4 + 3 * i) c) (5 + 3 * i) (4 + 3 * i) units 0 (omega arith) ∙
          get_or-set_same (set b (3 + 3 * i) id) (4 + 3 * i) c 0 (omega (arith, length-set b (3 + 3 * i) id))

      emitter_units_lem : emitter_units (with_emitter b i id c units) i ≡ units
      emitter_units_lem =
          get_or-set_same (set (set b (3 + 3 * i) id) (4 + 3 * i) c) (5 + 3 * i) units 0
          (omega (arith, length-set b (3 + 3 * i) id, length-set (set b (3 + 3 * i) id) (4 + 3 * i) c))

    -- the other emitters are as they were
    other_id : (j : ℕ) → j ≢ i → emitter_id (with_emitter b i id c units) j ≡ emitter_id b j
    other_id j h = emitter_rest (3 + 3 * j) (omega arith) (omega arith) (omega arith)

    other_cell : (j : ℕ) → j ≢ i → emitter_cell (with_emitter b i id c units) j ≡ emitter_cell b j
    other_cell j h = emitter_rest (4 + 3 * j) (omega arith) (omega arith) (omega arith)

    other_units : (j : ℕ) → j ≢ i → emitter_units (with_emitter b i id c units) j ≡ emitter_units b j
    other_units j h = emitter_rest (5 + 3 * j) (omega arith) (omega arith) (omega arith)

-- ---- an emitter added
module _ (b : List ℕ) (many : length b ≡ block_numbers) (id c units : ℕ) where
  abbrev n : ℕ
  n = standing b

  abbrev head : List ℕ
  head = with_head b (n + 1) (kept_units b + units)

  abbrev more : List ℕ
  more = emitter_added b id c units

  head_many : length head ≡ block_numbers
  head_many = length_head b many (n + 1) (kept_units b + units)

  pub length_added : length more ≡ block_numbers
  length_added = length_emitter head head_many n id c units

  -- its head, and the numbers that are neither in its head nor the new emitter's
  added_standing : standing more ≡ n + 1
  added_standing =
      emitter_rest head head_many n id c units 0 (omega arith) (omega arith) (omega arith) ∙
      head_standing b many (n + 1) (kept_units b + units)

  added_low : at more 1 ≡ (kept_units b + units) % half
  added_low =
      emitter_rest head head_many n id c units 1 (omega arith) (omega arith) (omega arith) ∙
      head_low b many (n + 1) (kept_units b + units)

  added_high : at more 2 ≡ (kept_units b + units) / half
  added_high =
      emitter_rest head head_many n id c units 2 (omega arith) (omega arith) (omega arith) ∙
      head_high b many (n + 1) (kept_units b + units)

  added_rest : (k : ℕ) → 3 ≤ k → k ≢ 3 + 3 * n → k ≢ 4 + 3 * n → k ≢ 5 + 3 * n → at more k ≡ at b k
  added_rest k h p q r =
      emitter_rest head head_many n id c units k p q r ∙ head_rest b many (n + 1) (kept_units b + units) k h

  -- the others are as they were
  old_id : (j : ℕ) → j < n → emitter_id more j ≡ emitter_id b j
  old_id j h = added_rest (3 + 3 * j) (omega arith) (omega arith) (omega arith) (omega arith)

  old_cell : (j : ℕ) → j < n → emitter_cell more j ≡ emitter_cell b j
  old_cell j h = added_rest (4 + 3 * j) (omega arith) (omega arith) (omega arith) (omega arith)

  old_units : (j : ℕ) → j < n → emitter_units more j ≡ emitter_units b j
  old_units j h = added_rest (5 + 3 * j) (omega arith) (omega arith) (omega arith) (omega arith)

  module _ (room : n < most_emitters) where
    new_id : emitter_id more n ≡ id
    new_id = emitter_id_lem head head_many n id c units room

    new_cell : emitter_cell more n ≡ c
    new_cell = emitter_cell_lem head head_many n id c units room

    new_units : emitter_units more n ≡ units
    new_units = emitter_units_lem head head_many n id c units room

    pub added_present : present_units more ≡ present_units b + units
    added_present =
        ap (λ (m : ℕ). sum m (emitter_units more)) added_standing ∙ sum_more n (emitter_units more) ∙
        ap₂ ◌+◌ (sum_ext n (emitter_units more) (emitter_units b) old_units) new_units

    added_kept : {cells : ℕ} → Sound cells b → kept_units b + units ≡ present_units more
    added_kept sound = ap (λ (x : ℕ). x + units) (kept_is sound) ∙ sym added_present

    -- the numbers behind the emitters' are as they were
    pub added_behind : (k : ℕ) → emitter_numbers ≤ k → at more k ≡ at b k
    added_behind k h = added_rest k (omega arith) (omega arith) (omega arith) (omega arith)

    pub added_keeps_limiter : limiter_in more ≡ limiter_in b
    added_keeps_limiter = same_limiter more b (λ k h few. added_behind k h)

    pub added_sound : {cells : ℕ} → Sound cells b → c < cells → has_id b id ≡ false → Sound cells more
    added_sound {cells} sound there new =
        record {
          many = length_added;
          few = rw added_standing (omega arith);
          there = λ i h. cell_there i (ℕ_discrete i n) (rw added_standing at h);
          apart = λ i j h k. differ i j (ℕ_discrete i n) (ℕ_discrete j n) (rw added_standing at h) (rw added_standing at k);
          low = added_low ∙ ap (λ (x : ℕ). x % half) (added_kept sound);
          high = added_high ∙ ap (λ (x : ℕ). x / half) (added_kept sound);
          free =
              λ k h few.
              let past : 3 + 3 * (n + 1) ≤ k = rw added_standing at h in
              added_rest k (omega arith) (omega arith) (omega arith) (omega arith) ∙ sound.free k (omega arith) few;
          limiter = ap limiter_fits added_keeps_limiter ∙ sound.limiter;
        }
      where
        cell_there : (i : ℕ) → Dec (i ≡ n) → i < n + 1 → emitter_cell more i < cells
        cell_there i (yes e) h = rw (e, new_cell) there
        cell_there i (no e) h = rw (old_cell i (omega arith)) (sound.there i (omega arith))

        -- no other emitter has the new one's id
        strange : (j : ℕ) → j < n → emitter_id b j ≢ id
        strange j h e = true≢false (sym (some_true n (λ i. eqb (emitter_id b i) id) j h (eq-eqb _ _ e)) ∙ new)

        differ : (i j : ℕ) → Dec (i ≡ n) → Dec (j ≡ n) → i < n + 1 → j < n + 1 → i ≢ j → emitter_id more i ≢ emitter_id more j
        differ i j (yes p) (yes q) h k ne e = ne (p ∙ sym q)
        differ i j (yes p) (no q) h k ne e =
            strange j (omega arith) (sym (old_id j (omega arith)) ∙ sym e ∙ ap (emitter_id more) p ∙ new_id)
        differ i j (no p) (yes q) h k ne e =
            strange i (omega arith) (sym (old_id i (omega arith)) ∙ e ∙ ap (emitter_id more) q ∙ new_id)
        differ i j (no p) (no q) h k ne e =
            sound.apart i j (omega arith) (omega arith) ne (sym (old_id i (omega arith)) ∙ e ∙ old_id j (omega arith))

-- an entry in the book and an emitter, in either order
pub entered_added :
    (b : List ℕ) (x y id c units : ℕ) → standing b < most_emitters → entered (emitter_added b id c units) x y ≡ emitter_added (entered b x y) id c units
entered_added b x y id c units room =
    entered_set l₅ x y (5 + 3 * n) units (omega arith) ∙ ap (λ (l : List ℕ). set l (5 + 3 * n) units)
    (entered_set l₄ x y (4 + 3 * n) c (omega arith) ∙ ap (λ (l : List ℕ). set l (4 + 3 * n) c)
    (entered_set l₃ x y (3 + 3 * n) id (omega arith) ∙ ap (λ (l : List ℕ). set l (3 + 3 * n) id)
    (entered_set l₂ x y 2 (k / half) (omega arith) ∙ ap (λ (l : List ℕ). set l 2 (k / half))
    (entered_set l₁ x y 1 (k % half) (omega arith) ∙ ap (λ (l : List ℕ). set l 1 (k % half))
    (entered_set b x y 0 (n + 1) (omega arith)))))) ∙
    ap₂ (λ (m u : ℕ). with_emitter (with_head (entered b x y) (m + 1) (u + units)) m id c units) (sym (entered_rest b x y 0 (omega arith) (omega arith)))
    (ap₂ (λ (p q : ℕ). p + half * q) (sym (entered_rest b x y 1 (omega arith) (omega arith))) (sym (entered_rest b x y 2 (omega arith) (omega arith))))
  where
    n : ℕ
    n = standing b

    k : ℕ
    k = kept_units b + units

    -- the block after each of the numbers that are written, but the last
    l₁ : List ℕ
    l₁ = set b 0 (n + 1)

    l₂ : List ℕ
    l₂ = set l₁ 1 (k % half)

    l₃ : List ℕ
    l₃ = set l₂ 2 (k / half)

    l₄ : List ℕ
    l₄ = set l₃ (3 + 3 * n) id

    l₅ : List ℕ
    l₅ = set l₄ (4 + 3 * n) c

-- ---- where the emitter of an id stands
place_more :
    (b : List ℕ) (id n : ℕ) (x : Bool) → eqb (emitter_id b n) id ≡ x → (x ≡ false → (place_of b id n < n) × (emitter_id b (place_of b id n) ≡ id)) →
    (place_of b id (suc n) < suc n) × (emitter_id b (place_of b id (suc n)) ≡ id)
unfolding place_of
place_more b id n true e rest = rw (e, place_of) (omega arith, eqb-true _ _ e)
place_more b id n false e rest = rw (e, place_of) (omega (arith, (rest refl).0), (rest refl).1)

pub place_is : (b : List ℕ) (id n : ℕ) → some n (λ i. eqb (emitter_id b i) id) ≡ true → (place_of b id n < n) × (emitter_id b (place_of b id n) ≡ id)
unfolding some
place_is b id zero e = absurd (false≢true e)
place_is b id (suc n) e =
    place_more b id n (eqb (emitter_id b n) id) refl
    (λ q. place_is b id n (sym (or-false _) ∙ ap (λ (x : Bool). some n (λ i. eqb (emitter_id b i) id) || x) (sym q) ∙ e))

-- ---- an emitter removed
module _ (b : List ℕ) (many : length b ≡ block_numbers) (few : standing b ≤ most_emitters) (id : ℕ) (present : has_id b id ≡ true) where
  abbrev gone : ℕ
  gone = place_of b id (standing b)

  abbrev last : ℕ
  last = standing b - 1

  abbrev units : ℕ
  units = kept_units b - emitter_units b gone

  gone_in : gone < standing b
  gone_in = (place_is b id (standing b) present).0

  abbrev lowered : List ℕ
  lowered = with_head b last units

  abbrev filled : List ℕ
  filled = with_emitter lowered gone (emitter_id b last) (emitter_cell b last) (emitter_units b last)

  abbrev fewer : List ℕ
  fewer = emitter_removed b id

  lowered_many : length lowered ≡ block_numbers
  lowered_many = length_head b many last units

  filled_many : length filled ≡ block_numbers
  filled_many = length_emitter lowered lowered_many gone (emitter_id b last) (emitter_cell b last) (emitter_units b last)

  pub length_removed : length fewer ≡ block_numbers
  length_removed = length_emitter filled filled_many last 0 0 0

  -- numbers outside the two places that are written
  removed_rest :
      (k : ℕ) → k ≢ 3 + 3 * last → k ≢ 4 + 3 * last → k ≢ 5 + 3 * last → k ≢ 3 + 3 * gone → k ≢ 4 + 3 * gone → k ≢ 5 + 3 * gone →
      at fewer k ≡ at lowered k
  removed_rest k p q r p' q' r' =
      emitter_rest filled filled_many last 0 0 0 k p q r ∙
      emitter_rest lowered lowered_many gone (emitter_id b last) (emitter_cell b last) (emitter_units b last) k p' q' r'

  removed_head : (k : ℕ) → k < 3 → at fewer k ≡ at lowered k
  removed_head k h =
      removed_rest k (omega arith) (omega arith) (omega arith) (omega arith) (omega arith) (omega arith)

  removed_standing : standing fewer ≡ last
  removed_standing = removed_head 0 (omega arith) ∙ head_standing b many last units

  -- place j has what place `source j` had: the place of the removed one has the last one
  abbrev source : ℕ → ℕ
  source j = elim (eqb j gone) [ true ↦ last | false ↦ j ]

  -- number d of an emitter: its id, its cell, its units
  moved_in : (d : ℕ) → d < 3 → at filled (3 + d + 3 * gone) ≡ at b (3 + d + 3 * last)
  moved_in zero h = emitter_id_lem lowered lowered_many gone _ (emitter_cell b last) (emitter_units b last) (omega (arith, few, gone_in))
  moved_in (suc zero) h = emitter_cell_lem lowered lowered_many gone (emitter_id b last) _ (emitter_units b last) (omega (arith, few, gone_in))
  moved_in (suc (suc zero)) h = emitter_units_lem lowered lowered_many gone (emitter_id b last) (emitter_cell b last) _ (omega (arith, few, gone_in))
  moved_in (suc (suc (suc d))) h = absurd (omega arith)

  was : (d j : ℕ) → d < 3 → j < last → at fewer (3 + d + 3 * j) ≡ at b (3 + d + 3 * source j)
  was d j small h = go (eqb j gone) refl
    where
      go : (x : Bool) → eqb j gone ≡ x → at fewer (3 + d + 3 * j) ≡ at b (3 + d + 3 * elim x [ true ↦ last | false ↦ j ])
      go true e =
          emitter_rest filled filled_many last 0 0 0 (3 + d + 3 * j) (omega arith) (omega arith) (omega arith) ∙
          ap (λ (m : ℕ). at filled (3 + d + 3 * m)) (eqb-true _ _ e) ∙ moved_in d small
      go false e =
          let ne : j ≢ gone = eqb-false _ _ e in
          removed_rest (3 + d + 3 * j) (omega arith) (omega arith) (omega arith) (omega arith) (omega arith) (omega arith) ∙
          head_rest b many last units (3 + d + 3 * j) (omega arith)

  source_in : (j : ℕ) → j < last → source j < standing b
  source_in j h = go (eqb j gone)
    where
      go : (x : Bool) → elim x [ true ↦ last | false ↦ j ] < standing b
      go true = omega (arith, gone_in)
      go false = omega arith

  source_self : (j : ℕ) → j ≢ gone → source j ≡ j
  source_self j ne = rw (ne_eqb j gone ne, source)

  source_gone : source gone ≡ last
  source_gone = rw (eq-eqb gone gone refl, source)

  source_apart : (j k : ℕ) → j < last → k < last → j ≢ k → source j ≢ source k
  source_apart j k h h' ne = go (ℕ_discrete j gone) (ℕ_discrete k gone)
    where
      go : Dec (j ≡ gone) → Dec (k ≡ gone) → source j ≢ source k
      go (yes p) (yes q) e = ne (p ∙ sym q)
      go (yes p) (no q) e = omega (arith, ap source p ∙ source_gone, source_self k q)
      go (no p) (yes q) e = omega (arith, source_self j p, ap source q ∙ source_gone)
      go (no p) (no q) e = omega (arith, source_self j p, source_self k q)

  -- the sum is lower by the removed one's units
  pub removed_present : present_units fewer + emitter_units b gone ≡ present_units b
  removed_present =
      ap (λ (m : ℕ). sum m (emitter_units fewer) + emitter_units b gone) removed_standing ∙ go (ℕ_discrete gone last) ∙
      sym (sum_more last (emitter_units b)) ∙ ap (λ (m : ℕ). sum m (emitter_units b)) (omega (arith, gone_in))
    where
      kept_units_lem : (j : ℕ) → j < last → j ≢ gone → emitter_units fewer j ≡ emitter_units b j
      kept_units_lem j h ne = was 2 j (omega arith) h ∙ ap (emitter_units b) (source_self j ne)

      go : Dec (gone ≡ last) → sum last (emitter_units fewer) + emitter_units b gone ≡ sum last (emitter_units b) + emitter_units b last
      go (yes e) =
          ap₂ ◌+◌ (sum_ext last (emitter_units fewer) (emitter_units b) (λ j h. kept_units_lem j h (omega arith))) (ap (emitter_units b) e)
      go (no e) =
          let inside : gone < last = omega (arith, gone_in) in
          sum_changed last (emitter_units b) (emitter_units fewer) gone inside kept_units_lem ∙
          ap (λ (x : ℕ). sum last (emitter_units b) + x) (was 2 gone (omega arith) inside ∙ ap (emitter_units b) source_gone)

  removed_kept : {cells : ℕ} → Sound cells b → units ≡ present_units fewer
  removed_kept sound = omega (arith, kept_is sound, removed_present)

  pub removed_behind : (k : ℕ) → emitter_numbers ≤ k → at fewer k ≡ at b k
  removed_behind k h =
      let in_block : last < most_emitters = omega (arith, few, gone_in) in
      let inside = gone_in in
      removed_rest k (omega arith) (omega arith) (omega arith) (omega arith) (omega arith) (omega arith) ∙
      head_rest b many last units k (omega arith)

  pub removed_keeps_limiter : limiter_in fewer ≡ limiter_in b
  removed_keeps_limiter = same_limiter fewer b (λ k h few. removed_behind k h)

  pub removed_sound : {cells : ℕ} → Sound cells b → Sound cells fewer
  removed_sound {cells} sound =
      record {
        many = length_removed;
        few = rw removed_standing (omega (arith, sound.few));
        there =
            λ j h.
            let k : j < last = rw removed_standing at h in
            rw (was 1 j (omega arith) k) (sound.there (source j) (source_in j k));
        apart =
            λ j k h h' ne e.
            let p : j < last = rw removed_standing at h in
            let q : k < last = rw removed_standing at h' in
            sound.apart (source j) (source k) (source_in j p) (source_in k q) (source_apart j k p q ne)
            (sym (was 0 j (omega arith) p) ∙ e ∙ was 0 k (omega arith) q);
        low = removed_head 1 (omega arith) ∙ head_low b sound.many last units ∙ ap (λ (x : ℕ). x % half) (removed_kept sound);
        high = removed_head 2 (omega arith) ∙ head_high b sound.many last units ∙ ap (λ (x : ℕ). x / half) (removed_kept sound);
        free = λ k h. freed k (rw removed_standing at h) (ℕ_discrete k (3 + 3 * last)) (ℕ_discrete k (4 + 3 * last)) (ℕ_discrete k (5 + 3 * last));
        limiter = ap limiter_fits removed_keeps_limiter ∙ sound.limiter;
      }
    where
      room : last < most_emitters
      room = omega (arith, sound.few, gone_in)

      freed :
          (k : ℕ) → 3 + 3 * last ≤ k → Dec (k ≡ 3 + 3 * last) → Dec (k ≡ 4 + 3 * last) → Dec (k ≡ 5 + 3 * last) →
          k < emitter_numbers → at fewer k ≡ 0
      freed k h (yes p) q r few = rw p (emitter_id_lem filled filled_many last 0 0 0 room)
      freed k h (no p) (yes q) r few = rw q (emitter_cell_lem filled filled_many last 0 0 0 room)
      freed k h (no p) (no q) (yes r) few = rw r (emitter_units_lem filled filled_many last 0 0 0 room)
      freed k h (no p) (no q) (no r) few =
          let inside = gone_in in
          removed_rest k p q r (omega arith) (omega arith) (omega arith) ∙ head_rest b sound.many last units k (omega arith) ∙
          sound.free k (omega arith) few

-- ---- an emitter added and removed again: every number of the block is as it was
module _ {cells : ℕ} {b : List ℕ} (sound : Sound cells b) (id c units : ℕ) (room : standing b < most_emitters) (there : c < cells) (new : has_id b id ≡ false) where
  abbrev with_it : List ℕ
  with_it = emitter_added b id c units

  pub added_has : has_id with_it id ≡ true
  added_has =
      some_true (standing with_it) (λ i. eqb (emitter_id with_it i) id) (standing b)
      (omega (arith, added_standing b sound.many id c units))
      (eq-eqb _ _ (new_id b sound.many id c units room))

  place_last : place_of with_it id (standing with_it) ≡ standing b
  unfolding place_of
  place_last =
      ap (place_of with_it id) (added_standing b sound.many id c units ∙ add-one (standing b)) ∙
      rw (eq-eqb _ _ (new_id b sound.many id c units room), place_of)

  sound_with : Sound cells with_it
  sound_with = added_sound b sound.many id c units room sound there new

  again : Sound cells (emitter_removed with_it id)
  again = removed_sound with_it sound_with.many sound_with.few id added_has sound_with

  same_standing : standing (emitter_removed with_it id) ≡ standing b
  same_standing = removed_standing with_it sound_with.many sound_with.few id added_has ∙ omega (arith, added_standing b sound.many id c units)

  same_present : present_units (emitter_removed with_it id) ≡ present_units b
  same_present =
      omega (
        arith,
        removed_present with_it sound_with.many sound_with.few id added_has,
        added_present b sound.many id c units room,
        ap (emitter_units with_it) place_last ∙ new_units b sound.many id c units room,
      )

  behind_head : (k : ℕ) → 3 ≤ k → at (emitter_removed with_it id) k ≡ at b k
  behind_head k past = go (le_or_lt (3 + 3 * standing b) k) (le_or_lt emitter_numbers k)
    where
      go : (3 + 3 * standing b ≤ k) ⊎ (k < 3 + 3 * standing b) → (emitter_numbers ≤ k) ⊎ (k < emitter_numbers) → at (emitter_removed with_it id) k ≡ at b k
      go (inl h) (inl behind) = removed_behind with_it sound_with.many sound_with.few id added_has k behind ∙ added_behind b sound.many id c units room k behind
      go (inl h) (inr few) = again.free k (rw same_standing h) few ∙ sym (sound.free k h few)
      go (inr h) either =
          let many = added_standing b sound.many id c units in
          let at_last = place_last in
          removed_rest with_it sound_with.many sound_with.few id added_has k (omega arith) (omega arith) (omega arith) (omega arith) (omega arith) (omega arith) ∙
          head_rest with_it sound_with.many (standing with_it - 1) _ k past ∙
          added_rest b sound.many id c units k past (omega arith) (omega arith) (omega arith)

  same_number : (k : ℕ) → at (emitter_removed with_it id) k ≡ at b k
  same_number zero = same_standing
  same_number (suc zero) = again.low ∙ ap (λ (x : ℕ). x % half) same_present ∙ sym sound.low
  same_number (suc (suc zero)) = again.high ∙ ap (λ (x : ℕ). x / half) same_present ∙ sym sound.high
  same_number (suc (suc (suc k))) = behind_head (suc (suc (suc k))) (omega arith)

  pub add_remove : emitter_removed with_it id ≡ b
  add_remove = ext_get_or 0 (emitter_removed with_it id) b (again.many ∙ sym sound.many) (λ k h. same_number k)

-- ---- a tick of the first n emitters
pub length_ticked : (b : List ℕ) (n : ℕ) (had : List ℕ) → length (ticked b n had) ≡ length had
unfolding ticked
length_ticked b zero had = refl
length_ticked b (suc n) had = length-set (ticked b n had) (emitter_cell b n) _ ∙ length_ticked b n had

-- the total is higher by their units
pub ticked_sum :
    (b : List ℕ) (cells : ℕ) (had : List ℕ) → length had ≡ cells → (n : ℕ) → ((i : ℕ) → i < n → emitter_cell b i < cells) →
    sum cells (at (ticked b n had)) ≡ sum cells (at had) + sum n (emitter_units b)
unfolding ticked sum
ticked_sum b cells had many zero there = omega arith
ticked_sum b cells had many (suc n) there =
    let l = ticked b n had in
    let c = emitter_cell b n in
    omega (
      arith,
      sum_set cells l c (at l c + emitter_units b n) (there n (omega arith)) (omega (arith, length_ticked b n had)),
      ticked_sum b cells had many n (λ i h. there i (omega arith)),
    )

-- those that emit nothing change nothing
pub ticked_none : (b had : List ℕ) (n : ℕ) → sum n (emitter_units b) ≡ 0 → ticked b n had ≡ had
unfolding ticked sum
ticked_none b had zero none = refl
ticked_none b had (suc n) none =
    let l = ticked b n had in
    let c = emitter_cell b n in
    let nothing : emitter_units b n ≡ 0 = omega arith in
    ap (λ (x : ℕ). set l c (at l c + x)) nothing ∙ ap (set l c) (add-zero (at l c)) ∙ set-get_or l c 0 ∙ ticked_none b had n (omega arith)

-- the units that a tick adds to cell c: of the first n emitters those that name it
abbrev pub units_in : List ℕ → ℕ → ℕ → ℕ
units_in b n c = sum n (λ i. elim (eqb (emitter_cell b i) c) [ true ↦ emitter_units b i | false ↦ 0 ])

one_more : (l : List ℕ) (c d u : ℕ) → d < length l → (x : Bool) → eqb d c ≡ x → at (set l d (at l d + u)) c ≡ at l c + elim x [ true ↦ u | false ↦ 0 ]
one_more l c d u h true e = rw (← (eqb-true d c e)) (get_or-set_same l d (at l d + u) 0 h)
one_more l c d u h false e =
    let ne : d ≢ c = eqb-false d c e in
    get_or-set_other l d c (at l d + u) 0 (omega arith) ∙ sym (add-zero (at l c))

pub ticked_at :
    (b had : List ℕ) (n : ℕ) → ((i : ℕ) → i < n → emitter_cell b i < length had) → (c : ℕ) →
    at (ticked b n had) c ≡ at had c + units_in b n c
unfolding ticked sum
ticked_at b had zero there c = omega arith
ticked_at b had (suc n) there c =
    let l = ticked b n had in
    let d = emitter_cell b n in
    omega (
      arith,
      one_more l c d (emitter_units b n) (omega (arith, there n (omega arith), length_ticked b n had)) (eqb d c) refl,
      ticked_at b had n (λ i h. there i (omega arith)) c,
    )
