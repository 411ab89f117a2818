-- How the page looks: the text of its style sheet.
use Rattle.std.specs.Prelude.{ℕ, List, ◌++◌, codes}

-- letters, headings and the borders of tables
unfoldable pub base_style : List ℕ
base_style = codes "body{margin:1rem;font:16px/1.35 system-ui,sans-serif;color:#111;background:#fff}\nh1{font-size:1.5rem;margin:0 0 .5rem;overflow-wrap:anywhere}\nh2{font-size:1.2rem;margin:1.5rem 0 .5rem}\ndiv{overflow-x:auto}\ntable{border-collapse:collapse}\nth,td{border:1px solid #888;padding:.25rem .4rem;text-align:left;vertical-align:top}\n"

-- the first column stays where a table is scrolled; a course in a cell is a box
unfoldable pub table_style : List ℕ
table_style = codes "thead th{background:#eee;white-space:nowrap}\ntr>:first-child{position:sticky;left:0;background:#eee;max-width:10rem;overflow-wrap:anywhere}\nb,small{display:block}\nb,i{overflow-wrap:anywhere}\nsmall{font-weight:normal;white-space:nowrap}\np{margin:0;padding:.15rem .3rem;border-left:.35rem solid #555;background:#f4f4f4}\np+p{margin-top:.25rem}\n"

-- marks of clashes and of rooms that are too small, and the first four colours of curricula
unfoldable pub mark_style : List ℕ
mark_style = codes "em{display:block;font-style:normal;font-weight:bold;color:#a00000}\n.x{outline:3px solid #a00000;outline-offset:-3px}\ntd span{display:inline-block;margin-right:1rem}\n.k0{background:#dceaff;border-color:#1f5fbf}\n.k1{background:#ffe3c7;border-color:#b35900}\n.k2{background:#d9f2d9;border-color:#1e7b1e}\n.k3{background:#ffdada;border-color:#b00020}\n"

-- the other six colours
unfoldable pub colour_style : List ℕ
colour_style = codes ".k4{background:#e9ddff;border-color:#6a3fc4}\n.k5{background:#f3e2d3;border-color:#7a4a1d}\n.k6{background:#ffdff2;border-color:#b3267e}\n.k7{background:#d3f3f3;border-color:#007a7a}\n.k8{background:#f3f3b8;border-color:#77770a}\n.k9{background:#e2e6ea;border-color:#3d4a57}\n"

-- on paper: one day a sheet, in its colours
unfoldable pub print_style : List ℕ
print_style = codes "@page{size:landscape;margin:10mm}\n@media print{\nbody{margin:0;font-size:9pt}\ndiv{overflow:visible}\nsection{break-after:page}\ntr{break-inside:avoid}\ntr>:first-child{position:static}\np,th,tr>:first-child{print-color-adjust:exact;-webkit-print-color-adjust:exact}\n}\n"

-- Ten colours, each a light ground with a dark edge; the letters stay black.
unfoldable pub style_text : List ℕ
style_text = base_style ++ table_style ++ mark_style ++ colour_style ++ print_style
