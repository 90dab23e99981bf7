-- What a refusal of the check's call says.
-- Assumes nothing.
use Rattle.std.specs.Prelude.{◌≡◌, ◌⊎◌, ◌≢◌, ℕ, ◌%◌, List, length}
use Rattle.answer.specs.Numbers.{COUNT}
use Rattle.verdict.specs.Refused.{CheckRefused}
use Rattle.words.specs.Words.{word_bytes, numbers}

-- "a byte length that isn't a multiple of eight is COUNT"; whole words are refused as the check of their numbers is
pub data HostCheckRefused (pot : ℕ) (weights amounts : List ℕ) (n : ℕ) : Type 0 where
  by_uneven : n ≡ COUNT → (length weights % word_bytes ≢ 0) ⊎ (length amounts % word_bytes ≢ 0) → HostCheckRefused pot weights amounts n
  by_numbers : length weights % word_bytes ≡ 0 → length amounts % word_bytes ≡ 0 → CheckRefused pot (numbers weights) (numbers amounts) n
      → HostCheckRefused pot weights amounts n
