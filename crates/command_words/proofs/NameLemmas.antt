-- A file name is text.
use Rattle.std.proofs.Common.{◌≡◌, ℕ, ◌<◌, List, [], ◌∷◌, Bool, true, false, ◌&&◌, refl, arith}
use Rattle.std.proofs.lemmas.Bool.Decides.{nat_tests}
use Rattle.std.specs.List.{list_all}
use Rattle.std.specs.Str.{IsAscii, IsUtf8}
use Rattle.std.proofs.lemmas.Str.{IsUtf8-from_ascii}
use Rattle.std.proofs.lemmas.Str.Ascii.{IsAscii-nil, IsAscii-cons}
use Rattle.command_words.specs.Names.{is_file_name_byte, is_file_name}

both_left : (a b : Bool) → a && b ≡ true → a ≡ true
both_left true b h = refl
both_left false b h = h

both_right : (a b : Bool) → a && b ≡ true → b ≡ true
both_right true b h = h
both_right false b h = absurd (cc)

name_byte-ascii : (byte : ℕ) → is_file_name_byte byte ≡ true → byte < 128
name_byte-ascii byte h = grind (arith, nat_tests)

name_bytes-ascii : (word : List ℕ) → list_all is_file_name_byte word ≡ true → IsAscii word
name_bytes-ascii [] h = IsAscii-nil
name_bytes-ascii (byte ∷ word) h =
    IsAscii-cons byte word (name_byte-ascii byte (both_left (is_file_name_byte byte) (list_all is_file_name_byte word) h))
    (name_bytes-ascii word (both_right (is_file_name_byte byte) (list_all is_file_name_byte word) h))

pub file_name-utf8 : (word : List ℕ) → is_file_name word ≡ true → IsUtf8 word
file_name-utf8 word h = IsUtf8-from_ascii word (name_bytes-ascii word (both_right _ (list_all is_file_name_byte word) h))
