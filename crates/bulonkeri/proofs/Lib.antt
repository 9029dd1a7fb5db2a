mod Arrays
mod Fits
mod Lists
mod Renewed
mod Texts
