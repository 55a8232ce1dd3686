-- Which of two readers a text goes on with: the one that lives, where the other is dead before.
use Rattle.std.specs.Prelude.{List, [], ◌∷◌, ◌≡◌, ℕ, suc}
use Rattle.std.proofs.Math.Path.{refl}
use Rattle.rules.specs.Reader.{Reader, give, stuck, ask}
use Rattle.rules.specs.Combine.{◌union◌}
use Rattle.script_laws.specs.Steps.{read_part}

module _ {A : Type 0} where
  -- A reader that no longer goes on behind the first k bytes of a text, or sooner,
  pub data Dead : ℕ → Reader A → List ℕ → Type 0 where
    dead : {k : ℕ} {t : List ℕ} → Dead k stuck t
    dead-behind : {k : ℕ} {f : ℕ → Reader A} {b : ℕ} {t : List ℕ} → Dead k (f b) t → Dead (suc k) (ask f) (b ∷ t)
    dead_end : {k : ℕ} {f : ℕ → Reader A} → Dead (suc k) (ask f) []

  -- and one that asks for each of the first k bytes.
  pub data Lives : ℕ → Reader A → List ℕ → Type 0 where
    lives : {r : Reader A} {t : List ℕ} → Lives 0 r t
    lives-behind : {k : ℕ} {f : ℕ → Reader A} {b : ℕ} {t : List ℕ} → Lives k (f b) t → Lives (suc k) (ask f) (b ∷ t)
    lives-end : {k : ℕ} {f : ℕ → Reader A} → Lives (suc k) (ask f) []

  pub or-stuck : (r : Reader A) → r union stuck ≡ r
  unfolding ◌union◌
  or-stuck (give a) = refl
  or-stuck stuck = refl
  or-stuck (ask f) = refl

  pub union-first : (p : ℕ) {k : ℕ} {r s : Reader A} {t : List ℕ} → Lives k r t → Dead k s t → read_part p (r union s) t ≡ read_part p r t
  unfolding ◌union◌ read_part
  union-first p {r = r} lives dead = rw (or-stuck r)
  union-first p (lives-behind h) dead = refl
  union-first p (lives-behind h) (dead-behind d) = union-first (suc p) h d
  union-first p lives-end dead = refl
  union-first p lives-end dead_end = refl

  pub union-second : (p : ℕ) {k : ℕ} {r s : Reader A} {t : List ℕ} → Dead k r t → Lives k s t → read_part p (r union s) t ≡ read_part p s t
  unfolding ◌union◌ read_part
  union-second p dead lives = refl
  union-second p dead (lives-behind h) = refl
  union-second p dead lives-end = refl
  union-second p (dead-behind d) (lives-behind h) = union-second (suc p) d h
  union-second p dead_end lives-end = refl

  -- Two readers at once.
  pub union-dead : {k : ℕ} {r s : Reader A} {t : List ℕ} → Dead k r t → Dead k s t → Dead k (r union s) t
  unfolding ◌union◌
  union-dead dead d = d
  union-dead (dead-behind d) dead = dead-behind d
  union-dead (dead-behind d) (dead-behind e) = dead-behind (union-dead d e)
  union-dead dead_end dead = dead_end
  union-dead dead_end dead_end = dead_end

  pub first-lives : {k : ℕ} {r s : Reader A} {t : List ℕ} → Lives k r t → Dead k s t → Lives k (r union s) t
  unfolding ◌union◌
  first-lives lives d = lives
  first-lives (lives-behind h) dead = lives-behind h
  first-lives (lives-behind h) (dead-behind d) = lives-behind (first-lives h d)
  first-lives lives-end dead = lives-end
  first-lives lives-end dead_end = lives-end

  pub second-lives : {k : ℕ} {r s : Reader A} {t : List ℕ} → Dead k r t → Lives k s t → Lives k (r union s) t
  unfolding ◌union◌
  second-lives d lives = lives
  second-lives dead (lives-behind h) = lives-behind h
  second-lives dead lives-end = lives-end
  second-lives (dead-behind d) (lives-behind h) = lives-behind (second-lives d h)
  second-lives dead_end lives-end = lives-end

  -- A reader that is dead sooner is dead.
  pub dead-sooner : {k : ℕ} {r : Reader A} {t : List ℕ} → Dead k r t → Dead (suc k) r t
  dead-sooner dead = dead
  dead-sooner (dead-behind d) = dead-behind (dead-sooner d)
  dead-sooner dead_end = dead_end
