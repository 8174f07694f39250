-- Ledgers at the edges of the rulings, read and written by the definition. The names are of 02, W11, in its order.
-- Assumes nothing.
use Rattle.std.specs.Prelude.{◌≡◌, refl, List, [], ◌∷◌, ◌++◌, ℕ, ◌+◌, replicate, length}
use Prim.Native.String.{String}
use Rattle.semantics.specs.Text.{bytes, textual}
use Rattle.book.specs.Books.{Entry, booked}
use Rattle.ledger.specs.Ledger.{ledger_text, ledgers}
use Rattle.ledger.specs.Reading.{Read, accepted, refused, bad_header, bad_quoting, field_count, bad_number, bad_place, socket_twice, too_many, reading, readings}

entry : ℕ → String → ℕ → Entry
entry n p t = record { number = n; place = bytes p; time = t }

-- A place of so many p.
long : ℕ → ℕ → ℕ → Entry
long n k t = record { number = n; place = replicate k 112; time = t }

-- A whole text, where two records fit.
whole : String → Read (List Entry)
whole s = reading 2 (bytes s)

-- Lines after the header's.
rows : List ℕ → Read (List Entry)
rows s = reading 2 (bytes "socket,place,time\r\n" ++ s)

row : String → Read (List Entry)
row s = rows (bytes s)

-- ---- the header: exactly its bytes, then CRLF or the end

headers : (whole "socket,place,time" ≡ accepted [])
    × (whole "socket,place,time\r\n" ≡ accepted [])
    × (whole "" ≡ refused bad_header)
    × (whole "socket,place,tim" ≡ refused bad_header)
    × (whole "socket,place,time\n" ≡ refused bad_header)
    × (whole "socket,place,time\r" ≡ refused bad_header)
    × (whole "socket,place,time\rx" ≡ refused bad_header)
    × (whole "socket,place,timex" ≡ refused bad_header)
    × (whole "socket,place,time \r\n" ≡ refused bad_header)
    × (whole "Socket,place,time\r\n" ≡ refused bad_header)
    × (whole "\"socket\",place,time\r\n" ≡ refused bad_header)
    × (whole "socket,place,time\n1,\"a" ≡ refused bad_header)
unfolding textual booked ledgers readings whole
headers = (refl, refl, refl, refl, refl, refl, refl, refl, refl, refl, refl, refl)

-- ---- what is accepted

accepts : (row "1,a,2\r\n" ≡ accepted (entry 1 "a" 2 ∷ []))
    × (row "1,a,2" ≡ accepted (entry 1 "a" 2 ∷ []))
    × (row "1,a,2\r\n0,b c,0" ≡ accepted (entry 1 "a" 2 ∷ entry 0 "b c" 0 ∷ []))
    × (row "\"1\",\"a\",\"2\"" ≡ accepted (entry 1 "a" 2 ∷ []))
    × (row "1,\"a,b\",2\r\n" ≡ accepted (entry 1 "a,b" 2 ∷ []))
    × (row "1,\"a\"\"b\",2\r\n" ≡ accepted (entry 1 "a\"b" 2 ∷ []))
    × (row "1,\"\"\"\",2\r\n" ≡ accepted (entry 1 "\"" 2 ∷ []))
    × (row "1,\"a\nb\r\",2\r\n" ≡ accepted (entry 1 "a\nb\r" 2 ∷ []))
    × (row "1,\"\r\n\",2" ≡ accepted (entry 1 "\r\n" 2 ∷ []))
    × (row "007,a,2147483647" ≡ accepted (entry 7 "a" 2147483647 ∷ []))
    × (row "00000000000000000000,a,0" ≡ accepted (entry 0 "a" 0 ∷ []))
    × (rows (bytes "1," ++ replicate 31 112 ++ bytes ",3") ≡ accepted (long 1 31 3 ∷ []))
    × (rows (49 ∷ 44 ∷ 0 ∷ 255 ∷ 44 ∷ 50 ∷ []) ≡ accepted ((record { number = 1; place = 0 ∷ 255 ∷ []; time = 2 }) ∷ []))
unfolding textual booked ledgers readings row rows entry long
accepts = (refl, refl, refl, refl, refl, refl, refl, refl, refl, refl, refl, refl, refl)

-- ---- bad quoting

quoting : (row "1,a\"b,2" ≡ refused bad_quoting)
    × (row "1,\"a\"b,2" ≡ refused bad_quoting)
    × (row "1,\"a\" ,2" ≡ refused bad_quoting)
    × (row "1,\"a,2\r\n" ≡ refused bad_quoting)
    × (row "1,a,\"" ≡ refused bad_quoting)
    × (row "1,a\n,2" ≡ refused bad_quoting)
    × (row "1,a,2\n" ≡ refused bad_quoting)
    × (row "1,a,2\r" ≡ refused bad_quoting)
    × (row "1,a,2\rx" ≡ refused bad_quoting)
    × (row "1,\"a\"\n,2" ≡ refused bad_quoting)
    × (row "1,a,\"2\"\r" ≡ refused bad_quoting)
    × (row "\n" ≡ refused bad_quoting)
    × (row "1,a\r\n2,\"x" ≡ refused bad_quoting)
unfolding textual booked ledgers readings row rows
quoting = (refl, refl, refl, refl, refl, refl, refl, refl, refl, refl, refl, refl, refl)

-- ---- the other refusals, each before the next

others : (row "1,a" ≡ refused field_count)
    × (row "1,a,2,\r\n" ≡ refused field_count)
    × (row "1,a,2\r\n\r\n" ≡ refused field_count)
    × (row "\r\n" ≡ refused field_count)
    × (row "\"\"" ≡ refused field_count)
    × (row "x,,y\r\n1,a" ≡ refused field_count)
    × (row ",," ≡ refused bad_number)
    × (row "+1,a,2" ≡ refused bad_number)
    × (row "1,a, 2" ≡ refused bad_number)
    × (row "1,a,\"2\"\"3\"" ≡ refused bad_number)
    × (row "1,a,2147483648" ≡ refused bad_number)
    × (row "99999999999999999999,a,2" ≡ refused bad_number)
    × (rows (bytes "1," ++ replicate 32 112 ++ bytes ",x") ≡ refused bad_number)
    × (row "1,,2\r\nx,a,2" ≡ refused bad_number)
    × (row "1,,2" ≡ refused bad_place)
    × (row "1,\"\",2" ≡ refused bad_place)
    × (rows (bytes "1," ++ replicate 32 112 ++ bytes ",3") ≡ refused bad_place)
    × (row "1,a,2\r\n1,b,2\r\n2,,2" ≡ refused bad_place)
    × (row "007,a,2\r\n7,b,1" ≡ refused socket_twice)
    × (row "1,a,2\r\n2,b,2\r\n1,c,2" ≡ refused socket_twice)
    × (row "1,a,2\r\n2,b,2\r\n3,c,2" ≡ refused too_many)
unfolding textual booked ledgers readings row rows
others = (refl, refl, refl, refl, refl, refl, refl, refl, refl, refl, refl, refl, refl, refl, refl, refl, refl, refl, refl, refl, refl)

-- ---- what is written

writes : (ledger_text [] ≡ bytes "socket,place,time\r\n")
    × (ledger_text (entry 17 "A-03" 100 ∷ entry 0 "say \"hi\", ok" 2147483647 ∷ entry 5 "x\ny" 0 ∷ [])
    ≡ bytes "socket,place,time\r\n17,A-03,100\r\n0,\"say \"\"hi\"\", ok\",2147483647\r\n5,\"x\ny\",0\r\n")
    × (ledger_text (entry 1 " a\t" 2 ∷ entry 10 "\r" 9 ∷ entry 2 "," 9 ∷ entry 3 "\"" 9 ∷ [])
    ≡ bytes "socket,place,time\r\n1, a\t,2\r\n10,\"\r\",9\r\n2,\",\",9\r\n3,\"\"\"\",9\r\n")
    × (length (ledger_text ((record { number = 2147483647; place = replicate 31 34; time = 2147483647 }) ∷ [])) ≡ 19 + 88)
unfolding textual ledgers entry
writes = (refl, refl, refl, refl)
