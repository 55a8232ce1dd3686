-- The words so far, with the places to come, are the words of all.
use Rattle.std.proofs.Common.{◌≡◌, List, ℕ, length, map, drop}
use Rattle.tape.specs.Row.{Lists}
use Rattle.tape.specs.Token.{place}
use Rattle.reasons.specs.Records.{words_from, words_of}
use Rattle.reasons.proofs.with_places.Given as goal

abbrev pub invariant-loop-token : goal.invariant-loop-token
invariant-loop-token l = record {
  four : length l.words ≡ 4;
  all : (tokens : List ℕ) → Lists l.fn.named tokens → words_from l.words (map place (drop l.token-index tokens)) ≡ words_of (map place tokens);
}
