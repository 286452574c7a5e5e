-- Worked examples, computed from the definitions: a pool of 19 entries byte for byte, a long's two indexes, and a text beside ASCII.
use Rattle.std.proofs.Common.{◌≡◌, ℕ, ◌++◌, List, [], ◌∷◌, Result, Ok, refl}
use Rattle.std.specs.Prelude.{codes, pos, negsuc}
use Rattle.jm_bytes.specs.Reading.{and_then}
use Rattle.jm_class_format.specs.ModifiedUtf8.{unit_bytes}
use Rattle.jm_class_format.specs.declared.constant_pool.Entry.{Entry}
use Rattle.jm_class_format.specs.declared.constant_pool.Entry.TheVariants as entry
use Rattle.jm_pool.specs.declared.constant.Constant.{Constant}
use Rattle.jm_pool.specs.declared.constant.Constant.TheVariants as constant
use Rattle.jm_pool.specs.declared.builder_fault.BuilderFault.{BuilderFault}
use Rattle.jm_pool.specs.Building.{entry_for, behind, places, is_entry, index_among, fits_length, extended, interned, entry_bytes, pool_bytes}

-- the indexes of constants that come one after the other, and the pool then
pub indexes_of : List Entry → List Constant → Result (List ℕ × List Entry) BuilderFault
indexes_of entries [] = Ok ([], entries)
indexes_of entries (c ∷ cs) = and_then (interned entries c) (λ x. and_then (indexes_of x.1 cs) (λ y. Ok (x.0 ∷ y.0, y.1)))

-- the constants of a class that prints, in the order of their first use, some of them named again
pub main_constants : List Constant
main_constants =
    constant.Utf8 (codes "Main") ∷ constant.Class 1 ∷ constant.Utf8 (codes "java/lang/Object") ∷ constant.Class 3
    ∷ constant.Utf8 (codes "main") ∷ constant.Utf8 (codes "([Ljava/lang/String;)V") ∷ constant.Utf8 (codes "Code")
    ∷ constant.Utf8 (codes "java/lang/System") ∷ constant.Class 8 ∷ constant.Utf8 (codes "out") ∷ constant.Utf8 (codes "Ljava/io/PrintStream;")
    ∷ constant.NameAndType 10 11 ∷ constant.Fieldref 9 12 ∷ constant.Utf8 (codes "java/io/PrintStream") ∷ constant.Class 14
    ∷ constant.Utf8 (codes "println") ∷ constant.Utf8 (codes "(I)V") ∷ constant.NameAndType 16 17 ∷ constant.Methodref 15 18 ∷ []

pub main_pool : List Entry
main_pool =
    entry.Utf8 (codes "Main") ∷ entry.Class 1 ∷ entry.Utf8 (codes "java/lang/Object") ∷ entry.Class 3
    ∷ entry.Utf8 (codes "main") ∷ entry.Utf8 (codes "([Ljava/lang/String;)V") ∷ entry.Utf8 (codes "Code")
    ∷ entry.Utf8 (codes "java/lang/System") ∷ entry.Class 8 ∷ entry.Utf8 (codes "out") ∷ entry.Utf8 (codes "Ljava/io/PrintStream;")
    ∷ entry.NameAndType 10 11 ∷ entry.Fieldref 9 12 ∷ entry.Utf8 (codes "java/io/PrintStream") ∷ entry.Class 14
    ∷ entry.Utf8 (codes "println") ∷ entry.Utf8 (codes "(I)V") ∷ entry.NameAndType 16 17 ∷ entry.Methodref 15 18 ∷ []

pub main_indexes : indexes_of [] main_constants ≡ Ok (1 ∷ 2 ∷ 3 ∷ 4 ∷ 5 ∷ 6 ∷ 7 ∷ 8 ∷ 9 ∷ 10 ∷ 11 ∷ 12 ∷ 13 ∷ 14 ∷ 15 ∷ 16 ∷ 17 ∷ 18 ∷ 19 ∷ [], main_pool)
unfolding indexes_of main_constants main_pool unit_bytes interned fits_length index_among is_entry extended places entry_for behind
main_indexes = refl

-- what stands there is named again, and the pool stays
pub named_again : indexes_of main_pool (constant.Methodref 15 18 ∷ constant.Utf8 (codes "Code") ∷ constant.Class 1 ∷ []) ≡ Ok (19 ∷ 7 ∷ 2 ∷ [], main_pool)
unfolding indexes_of main_pool unit_bytes interned fits_length index_among is_entry
named_again = refl

-- 185 bytes after the count 20
pub main_bytes : pool_bytes main_pool
    ≡ 0 ∷ 20 ∷ (1 ∷ 0 ∷ 4 ∷ codes "Main" ++ 7 ∷ 0 ∷ 1 ∷ 1 ∷ 0 ∷ 16 ∷ codes "java/lang/Object" ++ 7 ∷ 0 ∷ 3 ∷ 1 ∷ 0 ∷ 4 ∷ codes "main" ++ 1 ∷ 0 ∷ 22 ∷ codes "([Ljava/lang/String;)V"
    ++ 1 ∷ 0 ∷ 4 ∷ codes "Code" ++ 1 ∷ 0 ∷ 16 ∷ codes "java/lang/System" ++ 7 ∷ 0 ∷ 8 ∷ 1 ∷ 0 ∷ 3 ∷ codes "out" ++ 1 ∷ 0 ∷ 21 ∷ codes "Ljava/io/PrintStream;"
    ++ 12 ∷ 0 ∷ 10 ∷ 0 ∷ 11 ∷ 9 ∷ 0 ∷ 9 ∷ 0 ∷ 12 ∷ 1 ∷ 0 ∷ 19 ∷ codes "java/io/PrintStream" ++ 7 ∷ 0 ∷ 14 ∷ 1 ∷ 0 ∷ 7 ∷ codes "println" ++ 1 ∷ 0 ∷ 4 ∷ codes "(I)V"
    ++ 12 ∷ 0 ∷ 16 ∷ 0 ∷ 17 ∷ 10 ∷ 0 ∷ 15 ∷ 0 ∷ 18 ∷ [])
unfolding main_pool unit_bytes pool_bytes entry_bytes
main_bytes = refl

-- a long takes two indexes, and is written once
pub long_indexes : indexes_of [] (constant.Long (negsuc 0) ∷ constant.Integer (pos 7) ∷ constant.Long (negsuc 0) ∷ []) ≡ Ok (1 ∷ 3 ∷ 1 ∷ [], entry.Long (negsuc 0) ∷ entry.Unusable ∷ entry.Integer (pos 7) ∷ [])
unfolding indexes_of interned fits_length index_among is_entry extended places entry_for behind
long_indexes = refl

pub long_bytes : pool_bytes (entry.Long (negsuc 0) ∷ entry.Unusable ∷ entry.Integer (pos 7) ∷ []) ≡ 0 ∷ 4 ∷ 5 ∷ 255 ∷ 255 ∷ 255 ∷ 255 ∷ 255 ∷ 255 ∷ 255 ∷ 255 ∷ 3 ∷ 0 ∷ 0 ∷ 0 ∷ 7 ∷ []
unfolding pool_bytes entry_bytes
long_bytes = refl

-- 0 takes two bytes, and the code units D83D and DE00 of one sign past FFFF take six
pub text_entry : entry_bytes (entry.Utf8 (0 ∷ 0xD83D ∷ 0xDE00 ∷ [])) ≡ 1 ∷ 0 ∷ 8 ∷ 0xC0 ∷ 0x80 ∷ 0xED ∷ 0xA0 ∷ 0xBD ∷ 0xED ∷ 0xB8 ∷ 0x80 ∷ []
unfolding unit_bytes entry_bytes
text_entry = refl
