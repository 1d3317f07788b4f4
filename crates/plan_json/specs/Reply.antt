-- Replies of HTTP/1.1 as bytes (RFC 9112, section 4): the status line, three fields, an empty line and the body.
use Rattle.std.specs.Prelude.{ℕ, ◌==◌, List, [], ◌∷◌, ◌++◌, length, Bool, codes, decimal, if◌then◌else◌}
use Rattle.std.specs.List.{list_any}

abbrev pub crlf : List ℕ
crlf = codes "\r\n"

-- the statuses of replies (RFC 9110, section 15; RFC 6585, section 5)
abbrev pub is_status : ℕ → Bool
is_status status = list_any (λ known. known == status) (200 ∷ 400 ∷ 404 ∷ 405 ∷ 411 ∷ 413 ∷ 422 ∷ 431 ∷ 501 ∷ 503 ∷ [])

abbrev pub reason_of : ℕ → List ℕ
reason_of status =
    if status == 200 then codes "OK"
    else (if status == 400 then codes "Bad Request"
    else (if status == 404 then codes "Not Found"
    else (if status == 405 then codes "Method Not Allowed"
    else (if status == 411 then codes "Length Required"
    else (if status == 413 then codes "Content Too Large"
    else (if status == 422 then codes "Unprocessable Content"
    else (if status == 431 then codes "Request Header Fields Too Large"
    else (if status == 501 then codes "Not Implemented"
    else codes "Service Unavailable"))))))))

abbrev pub status_line : ℕ → List ℕ → List ℕ
status_line status reason = codes "HTTP/1.1 " ++ (decimal status ++ (codes " " ++ (reason ++ crlf)))

-- whether the connection stays open (RFC 9112, section 9.3)
abbrev pub connection : Bool → List ℕ
connection close = if close then codes "close" else codes "keep-alive"

abbrev pub content_lines : ℕ → List ℕ
content_lines bytes = codes "Content-Type: application/json\r\nContent-Length: " ++ (decimal bytes ++ crlf)

abbrev pub connection_line : List ℕ → List ℕ
connection_line connection = codes "Connection: " ++ (connection ++ crlf)

-- the bytes of a reply
abbrev pub reply_text : ℕ → Bool → List ℕ → List ℕ
reply_text status close body =
    status_line status (reason_of status) ++ (content_lines (length body) ++ (connection_line (connection close) ++ (crlf ++ body)))
