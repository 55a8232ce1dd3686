-- The record of one atom, by the fates: the whole is false, it is merged into another, or step 5 tells of it.
use mathlib.Core.Path.{◌≡◌, sym, ap, ◌∙◌, subst}
use mathlib.Core.Bool.{Bool, true, false, true≢false}
use mathlib.Core.List.{List, [], map}
use Prim.Native.Nat.{ℕ, ◌%◌, ◌<◌, ◌≤◌}
use native.Mathlib.Nat.{mod-eq_of_lt}
use native.Mathlib.Omega.{arith}
use lib.ListN.{length}
use borrow.Author.Tests.{eq-eqb, ne_eqb}
use Rattle.rules.specs.Level.{Placed}
use Rattle.table.specs.Table.{Table, Forms, form_at}
use Rattle.tape.specs.Row.{Lists}
use Rattle.tape.specs.Listing.{row-long}
use Rattle.tape.specs.Token.{slot, place, atom_of, atoms_in}
use Rattle.fates.specs.declared.Fates.{Fates}
use Rattle.fates.specs.Fated.{FatesOf, all_false, each_told}
use Rattle.rules.specs.Reasons.{merged_into, told_from, reason_at, place_of, unless_merged, reason_for}
use Rattle.reason_laws.specs.Names.{Rising, among-rises}
use Rattle.reasons.specs.declared.Reason.{Reason}
use Rattle.reasons.specs.Records.{no_places, words_of, made}
use Rattle.reasons.specs.Telling.{first_place, Sifted, Explains, told, LowPlace}
use Rattle.reasons.proofs.Tokens.{first-place, places-of}

never : {A : Type 0} {b : Bool} → b ≡ true → b ≡ false → A
never e f = absurd (true≢false (sym e ∙ f))

module _ {t : Table} {fates : Fates} where
  -- ---- What is asked of the rows.
  pub carried_row : Explains t fates → fates.carried.count ≤ length fates.carried.token
  carried_row e = by-fates e.fates
    where
      by-fates : {l : List ℕ} → FatesOf t l fates → fates.carried.count ≤ length fates.carried.token
      by-fates (all_false f) = row-long f.lists
      by-fates (each_told f) = row-long f.carried_lists

  pub joined-row : Explains t fates → fates.excluded ≡ false → fates.joined.count ≤ length fates.joined.token
  joined-row e flag = by-fates e.fates
    where
      by-fates : {l : List ℕ} → FatesOf t l fates → fates.joined.count ≤ length fates.joined.token
      by-fates (all_false f) = never f.flag flag
      by-fates (each_told f) = row-long f.joined_lists

  pub sifted : Explains t fates → fates.excluded ≡ false → Sifted t fates.carried fates.left fates.state
  sifted e flag = by-fates e.fates e.rises
    where
      by-fates : {l : List ℕ} → FatesOf t l fates → Rising (atoms_in t l) → Sifted t fates.carried fates.left fates.state
      by-fates (all_false f) rises = never f.flag flag
      by-fates (each_told f) rises = record {
        carrying = f.carrying;
        staying = f.staying;
        lists = f.carried_lists;
        rest_lists = f.left_lists;
        few = f.few;
        from = f.from;
        rises = among-rises f.among rises;
        left = f.left;
      }

  -- ---- The whole is false.
  pub false-told : {l : List ℕ} (f : FatesOf t l fates) → fates.excluded ≡ true → {r : Reason}
      → ((named : List ℕ) → Lists fates.carried named → r ≡ record { kind = 5; set = 0; place = 0; places = words_of (map place named) })
      → (c : Placed) → r ≡ made (told f c)
  unfolding told made
  false-told (all_false f) flag h c =
      h f.named f.lists ∙ ap (λ (named : List ℕ). record { kind = 5; set = 0; place = 0; places = words_of named })
      (sym (places-of t f.named))
  false-told (each_told f) flag h c = never flag f.flag

  -- ---- It is not.
  module _ (forms : Forms t) (token : ℕ) {first : ℕ} (is-first : (l : List ℕ) → Lists fates.joined l
      → first ≡ first_place (slot token) l (place token)) where
    pub merged-told : {l : List ℕ} (f : FatesOf t l fates) → fates.excluded ≡ false → (first ≡ place token → ⊥)
        → LowPlace (told f (atom_of t token)) → {r : Reason}
        → r ≡ record { kind = 3; set = 0; place = first % 256; places = no_places } → r ≡ made (told f (atom_of t token))
    unfolding told made reason_for unless_merged atom_of
    merged-told (all_false f) flag other low e = never f.flag flag
    merged-told {l} (each_told f) flag other low {r} e =
        let there : place_of (form_at t (slot token)) (atoms_in t f.merged) (place token) ≡ first =
        first-place forms (slot token) (place token) (omega arith) f.merged ∙ sym (is-first f.merged f.joined_lists) in
        let is : told {l = l} (each_told f) (atom_of t token) ≡ merged_into first = rw (there, ne_eqb first (place token) other) in
        let fits : first < 256 = subst LowPlace is low in
        e ∙ ap (λ (k : ℕ). made (merged_into k)) (mod-eq_of_lt fits) ∙ ap made (sym is)

    pub stepped-told : {l : List ℕ} (f : FatesOf t l fates) → fates.excluded ≡ false → first ≡ place token → {r : Reason}
        → ((l : List ℕ) → Lists fates.carried l → r ≡ made (reason_at (place token) (token % 8) (told_from t.variables [] (atoms_in t l))))
        → r ≡ made (told f (atom_of t token))
    unfolding told reason_for unless_merged atom_of
    stepped-told (all_false f) flag same e = never f.flag flag
    stepped-told (each_told f) flag same e =
        let there : place_of (form_at t (slot token)) (atoms_in t f.merged) (place token) ≡ first =
        first-place forms (slot token) (place token) (omega arith) f.merged ∙ sym (is-first f.merged f.joined_lists) in
        rw (there, eq-eqb first (place token) same) (e f.carrying f.carried_lists)
