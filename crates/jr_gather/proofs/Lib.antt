mod Piling
